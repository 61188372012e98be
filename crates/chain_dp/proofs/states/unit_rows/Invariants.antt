use Rattle.chain_dp.specs.States.{AreUnitRows}
use Rattle.chain_dp.proofs.states.unit_rows.Given as goal

abbrev pub invariant-loop-lot : goal.invariant-loop-lot
invariant-loop-lot l = AreUnitRows l.top l.lot l.rows.items
