use Rattle.std.proofs.Common.{◌-◌}
use Rattle.lot_sizing.specs.Problem.{entry}
use Rattle.must_start.specs.Rows.{start_in}
use Rattle.reduced_groups.specs.Prices.{price_in}
use Rattle.reduced_groups.specs.Floors.{AreLotsFor, settled_start}
use Rattle.reduced_groups.proofs.quantities.short_lots_of_item.Given as goal

abbrev pub invariant-loop-period : goal.invariant-loop-period
invariant-loop-period l = AreLotsFor l.given.instance.now (settled_start l.given.instance.now (start_in l.given.started.now) (start_in l.given.on_time.now) l.item) (start_in l.given.on_time.now l.item) (entry l.shares) (price_in l.given.prices.now) l.item (l.period - 1) l.lots.items
