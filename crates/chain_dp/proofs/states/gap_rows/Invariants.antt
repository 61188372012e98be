use Rattle.chain_dp.specs.States.{AreGapRows}
use Rattle.chain_dp.proofs.states.gap_rows.Given as goal

abbrev pub invariant-loop-served : goal.invariant-loop-served
invariant-loop-served l = AreGapRows l.low l.mid l.table l.lot l.served l.gaps.items
