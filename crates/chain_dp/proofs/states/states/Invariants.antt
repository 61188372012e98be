use Rattle.chain_dp.specs.States.{AreTables}
use Rattle.chain_dp.proofs.states.states.Given as goal

abbrev pub invariant-loop-lot : goal.invariant-loop-lot
invariant-loop-lot l = AreTables l.low l.mid l.top l.stretches l.lot l.table.items
