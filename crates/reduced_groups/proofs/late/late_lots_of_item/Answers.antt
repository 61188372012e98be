use Rattle.std.proofs.Common.{◌≡◌, ◌+◌, ◌-◌, ◌∙◌, ap, sym, subst, arith, slice_index_or}
use Rattle.must_start.specs.Rows.{start_in}
use Rattle.reduced_groups.specs.Floors.{AreLateLotsFor, late_lot}
use Rattle.reduced_groups.specs.Prices.{price_in}
use Rattle.reduced_groups.proofs.LateLots.{late_lots_next, lot_same}
use Rattle.reduced_groups.proofs.late.late_lots_of_item.Goals as goal

pub loop-period-preserved : goal.loop-period-preserved
loop-period-preserved c =
    let start = start_in c.args.on_time.now in
    let price = price_in c.args.prices.now in
    let i = c.args.item in
    let shares = c.args.shares.now in
    let t = c.loop-period.period in
    let e : t ≡ t + 1 - 1 = omega arith in
    let grown : AreLateLotsFor start price i shares t c.push.new.self.items =
    subst (AreLateLotsFor start price i shares t) (sym c.in_ok-push.ensures.items)
    (late_lots_next start price i shares (t - 1) t _ c.loop-period.lots.items (omega (arith, c.loop-period.auto.period)) c.loop-period.invariant
    (lot_same _ (late_lot start price i shares t) (ap (λ xs. slice_index_or xs (t - 1) 0) c.setups-setups.ensures) (ap (λ xs. slice_index_or xs (t - 1) 0) c.units-units.ensures) (c.from.ensures ∙ c.of.ensures) c.by_end.ensures)) in
    subst (λ n. AreLateLotsFor start price i shares n c.push.new.self.items) e grown

pub returns : goal.returns
returns c =
    let all : c.loop-period.period - 1 ≡ c.args.instance.now.periods = omega (arith, c.loop-period-test.false, c.loop-period.auto.period-end, c.periods-period-end.ensures.value) in
    subst (λ n. AreLateLotsFor (start_in c.args.on_time.now) (price_in c.args.prices.now) c.args.item c.args.shares.now n c.loop-period.lots.items) all c.loop-period.invariant
