use Rattle.chain_dp.specs.States.{AreUnits}
use Rattle.chain_dp.proofs.states.units_row.Given as goal

abbrev pub invariant-loop-to : goal.invariant-loop-to
invariant-loop-to l = AreUnits l.top l.lot l.to l.cells.items
