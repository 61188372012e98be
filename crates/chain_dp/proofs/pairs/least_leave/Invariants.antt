use Rattle.chain_dp.specs.Numbers.{IsLeastOf}
use Rattle.chain_dp.specs.Tables.{leave_cost}
use Rattle.chain_dp.proofs.pairs.least_leave.Given as goal

abbrev pub invariant-loop-lot : goal.invariant-loop-lot
invariant-loop-lot l = IsLeastOf l.served l.lot (leave_cost l.low l.mid l.plane l.served l.to) l.least
