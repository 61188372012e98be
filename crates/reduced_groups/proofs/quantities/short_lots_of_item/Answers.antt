use Rattle.std.proofs.Common.{◌≡◌, ◌+◌, ◌-◌, sym, subst, arith}
use Rattle.lot_sizing.specs.Problem.{entry}
use Rattle.must_start.specs.Rows.{start_in}
use Rattle.reduced_groups.specs.Floors.{AreLotsFor, settled_start}
use Rattle.reduced_groups.specs.Prices.{price_in}
use Rattle.reduced_groups.proofs.QuantityLots.{lots_next}
use Rattle.reduced_groups.proofs.quantities.short_lots_of_item.Goals as goal

pub loop-period-preserved : goal.loop-period-preserved
loop-period-preserved c =
    let m = c.args.given.instance.now in
    let on_time = start_in c.args.given.on_time.now in
    let start = settled_start m (start_in c.args.given.started.now) on_time c.args.item in
    let cost = entry c.args.shares.now in
    let price = price_in c.args.given.prices.now in
    let i = c.args.item in
    let t = c.loop-period.period in
    let e : t ≡ t + 1 - 1 = omega arith in
    let grown : AreLotsFor m start (on_time i) cost price i t c.push.new.self.items =
    subst (AreLotsFor m start (on_time i) cost price i t) (sym c.in_ok-push.ensures.items)
    (lots_next m start (on_time i) cost price i (t - 1) t c.short_lot_of.result c.loop-period.lots.items (omega (arith, c.loop-period.auto.period)) c.loop-period.invariant c.short_lot_of.ensures) in
    subst (λ n. AreLotsFor m start (on_time i) cost price i n c.push.new.self.items) e grown

pub returns : goal.returns
returns c =
    let m = c.args.given.instance.now in
    let on_time = start_in c.args.given.on_time.now in
    let all : c.loop-period.period - 1 ≡ m.periods = omega (arith, c.loop-period-test.false, c.loop-period.auto.period-end, c.periods-period-end.ensures.value) in
    subst (λ n. AreLotsFor m (settled_start m (start_in c.args.given.started.now) on_time c.args.item) (on_time c.args.item) (entry c.args.shares.now) (price_in c.args.given.prices.now) c.args.item n c.loop-period.lots.items) all c.loop-period.invariant
