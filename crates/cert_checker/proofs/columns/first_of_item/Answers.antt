use Rattle.std.proofs.Common.{rules, ◌≡◌, ◌<◌, ◌^◌, refl, arith}
use mir.Facts.{to_z-of_z}
use mir.Val.{of_z, to_z}
use mir.Syntax.{w128}
use Rattle.cert_checker.specs.Named.{IsLarge}
use Rattle.cert_checker.proofs.Firsts.{all_of_item, first_of_item, one_of_item}
use Rattle.cert_checker.proofs.columns.first_of_item.Goals as goal

pub returns-then-not-is_within_cost-clause-some : goal.returns-then-not-is_within_cost-clause-some
returns-then-not-is_within_cost-clause-some c =
    let m = c.args.instance.now in
    let s = c.args.sums.now in
    let column = c.column_of-column in
    let same : to_z w128 (of_z w128 c.args.den) ≡ c.args.den = to_z-of_z c.ranges.den in
    let item_small : c.args.item < 2 ^ 32 = search rules in
    let period_small : c.loop-period.period < 2 ^ 32 = search rules in
    let large : IsLarge m c.args.den s column.result = rw same at c.if-not-is_within_cost.ensures.large refl in
    first_of_item m c.args.den s c.args.kind c.args.item c.loop-period.period column.result column.ensures.kind column.ensures.item column.ensures.period item_small period_small large (λ d of low. rw same at c.loop-period.invariant d of low)

pub loop-period-preserved : goal.loop-period-preserved
loop-period-preserved c = λ d of low.
    let column = c.column_of-column in
    one_of_item c.args.instance.now (to_z w128 (of_z w128 c.args.den)) c.args.sums.now c.args.kind c.args.item c.loop-period.period column.result d column.ensures.kind column.ensures.item column.ensures.period (c.if-not-is_within_cost.ensures.within refl) c.loop-period.invariant of low

pub returns-clause-none : goal.returns-clause-none
returns-clause-none c = λ _ d of.
    let same : to_z w128 (of_z w128 c.args.den) ≡ c.args.den = to_z-of_z c.ranges.den in
    all_of_item c.args.instance.now c.args.den c.args.sums.now c.args.kind c.args.item c.loop-period.period d (omega (arith, c.loop-period-test.false, c.periods-period-end.ensures.value)) (λ e is low. rw same at c.loop-period.invariant e is low) of
