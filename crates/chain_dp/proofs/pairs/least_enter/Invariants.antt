use Rattle.chain_dp.specs.Numbers.{IsLeastOf}
use Rattle.chain_dp.specs.Tables.{enter_cost}
use Rattle.chain_dp.proofs.pairs.least_enter.Given as goal

abbrev pub invariant-loop-lot : goal.invariant-loop-lot
invariant-loop-lot l = IsLeastOf 0 l.lot (enter_cost l.gaps l.stretches l.served) l.least
