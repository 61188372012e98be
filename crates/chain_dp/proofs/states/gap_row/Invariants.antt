use Rattle.chain_dp.specs.States.{IsGapRow}
use Rattle.chain_dp.proofs.states.gap_row.Given as goal

abbrev pub invariant-loop-before : goal.invariant-loop-before
invariant-loop-before l = IsGapRow l.low l.mid l.table l.served l.lot l.before l.gap
