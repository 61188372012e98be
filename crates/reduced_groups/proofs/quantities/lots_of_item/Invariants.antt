use Rattle.std.proofs.Common.{◌-◌}
use Rattle.must_start.specs.Rows.{start_in}
use Rattle.reduced_groups.specs.Prices.{price_in}
use Rattle.reduced_groups.specs.Floors.{AreLotsFor}
use Rattle.reduced_groups.proofs.quantities.lots_of_item.Given as goal

abbrev pub invariant-loop-period : goal.invariant-loop-period
invariant-loop-period l = AreLotsFor l.given.instance.now (start_in l.given.started.now l.item) (λ t. 0) (λ t. 0) (price_in l.given.prices.now) l.item (l.period - 1) l.lots.items
