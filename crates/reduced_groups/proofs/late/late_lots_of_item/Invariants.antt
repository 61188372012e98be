use Rattle.std.proofs.Common.{◌-◌}
use Rattle.must_start.specs.Rows.{start_in}
use Rattle.reduced_groups.specs.Prices.{price_in}
use Rattle.reduced_groups.specs.Floors.{AreLateLotsFor}
use Rattle.reduced_groups.proofs.late.late_lots_of_item.Given as goal

abbrev pub invariant-loop-period : goal.invariant-loop-period
invariant-loop-period l = AreLateLotsFor (start_in l.on_time) (price_in l.prices) l.item l.shares (l.period - 1) l.lots.items
