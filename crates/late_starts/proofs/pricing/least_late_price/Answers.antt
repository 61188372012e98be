use Rattle.std.proofs.Common.{◌≡◌, ◌≤◌, ◌-◌, refl, subst, arith, length}
use Rattle.late_starts.specs.Pricing.{IsLeastOfRow, IsNextRowTo, late_lots_of, servers_to}
use Rattle.late_starts.proofs.Tabling.{priced_end, priced_first, priced_more}
use Rattle.late_starts.proofs.pricing.least_late_price.Goals as goal

pub loop-period-init : goal.loop-period-init
loop-period-init c = priced_first (late_lots_of c.args.lots.now c.args.settled) c.new-row.result.items 0 c.requires.rising c.new-row.ensures.items refl

pub loop-period-preserved : goal.loop-period-preserved
loop-period-preserved c =
    let a = late_lots_of c.args.lots.now c.args.settled in
    let k = c.loop-period.period in
    let least = c.loop-period.least in
    let next = c.in_ok-row.row.items in
    let high : k ≤ length c.args.lots.now = omega (arith, c.loop-period-test.true, c.requires.periods) in
    let row_next = subst (λ row. IsNextRowTo a k row least (servers_to c.args.settled k) next) c.deref.ensures.value c.in_ok-row.ensures in
    let by_need = subst (λ need. IsLeastOfRow need c.deref-in-loop-period.result.now c.least_of-least.result) c.need_by.ensures c.least_of-least.ensures in
    let least_next = subst (λ row. IsLeastOfRow (a.need k) row c.least_of-least.result) c.deref-in-loop-period.ensures.value by_need in
    priced_more a k c.loop-period.row.items next least c.least_of-least.result c.requires.rising c.requires.settled c.loop-period.auto.period high c.loop-period.invariant row_next least_next

pub returns : goal.returns
returns c =
    let last : c.loop-period.period - 1 ≡ length c.args.lots.now = omega (arith, c.loop-period-test.false, c.loop-period.auto.period-end, c.requires.periods) in
    priced_end (late_lots_of c.args.lots.now c.args.settled) (c.loop-period.period - 1) c.loop-period.row.items c.loop-period.least c.requires.settled last c.loop-period.invariant
