use Rattle.std.proofs.Common.{◌≡◌, ◌-◌}
use Rattle.lot_sizing.specs.Single.{positions_to}
use Rattle.echelon.specs.Views.{single_of_item}
use Rattle.echelon.proofs.single.positions.Given as goal

abbrev pub invariant-loop-period : goal.invariant-loop-period
invariant-loop-period l = l.periods.items ≡ positions_to (single_of_item l.single) (l.period - 1)
