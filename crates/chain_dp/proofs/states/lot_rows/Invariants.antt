use Rattle.chain_dp.specs.States.{AreLotRows}
use Rattle.chain_dp.proofs.states.lot_rows.Given as goal

abbrev pub invariant-loop-served : goal.invariant-loop-served
invariant-loop-served l = AreLotRows l.low l.mid l.top l.stretches l.table l.lot l.served l.rows.items
