use Rattle.chain_dp.specs.Tables.{IsLeastEnd}
use Rattle.chain_dp.proofs.pairs.least_of_ends.Given as goal

abbrev pub invariant-loop-lot : goal.invariant-loop-lot
invariant-loop-lot l = IsLeastEnd l.low l.mid l.stretches l.plane l.lot l.last l.least
