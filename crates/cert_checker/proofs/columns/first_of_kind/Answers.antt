use Rattle.std.proofs.Common.{◌≡◌, arith}
use mir.Facts.{to_z-of_z}
use mir.Val.{of_z, to_z}
use mir.Syntax.{w128}
use Rattle.cert_checker.specs.Named.{IsFirstLarge, IsOfItem}
use Rattle.cert_checker.proofs.Firsts.{all_of_kind, first_of_kind}
use Rattle.cert_checker.proofs.columns.first_of_kind.Goals as goal

pub returns-in-Some-clause-some : goal.returns-in-Some-clause-some
returns-in-Some-clause-some c =
    let m = c.args.instance.now in
    let s = c.args.sums.now in
    let same : to_z w128 (of_z w128 c.args.den) ≡ c.args.den = to_z-of_z c.ranges.den in
    let first : IsFirstLarge m c.args.den s (IsOfItem c.args.kind c.loop-item.item) c.in-Some.column = rw same at c.in-Some.ensures.some in
    first_of_kind m c.args.den s c.args.kind c.loop-item.item c.in-Some.column first (λ d of low. rw same at c.loop-item.invariant d of low)

pub returns-clause-none : goal.returns-clause-none
returns-clause-none c = λ _ d of.
    let same : to_z w128 (of_z w128 c.args.den) ≡ c.args.den = to_z-of_z c.ranges.den in
    all_of_kind c.args.instance.now c.args.den c.args.sums.now c.args.kind c.loop-item.item d (omega (arith, c.loop-item-test.false, c.items-item-end.ensures.value)) (λ e is low. rw same at c.loop-item.invariant e is low) of
