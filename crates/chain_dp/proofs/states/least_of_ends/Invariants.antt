use Rattle.chain_dp.specs.States.{IsNarrowEnd}
use Rattle.chain_dp.proofs.states.least_of_ends.Given as goal

abbrev pub invariant-loop-lot : goal.invariant-loop-lot
invariant-loop-lot l = IsNarrowEnd l.low l.mid l.stretches l.table l.last l.lot l.least
