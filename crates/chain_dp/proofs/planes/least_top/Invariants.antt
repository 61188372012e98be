use Rattle.chain_dp.specs.Numbers.{IsLeastOf}
use Rattle.chain_dp.specs.Tables.{top_step}
use Rattle.chain_dp.proofs.planes.least_top.Given as goal

abbrev pub invariant-loop-opened : goal.invariant-loop-opened
invariant-loop-opened l = IsLeastOf l.lot l.opened (top_step l.low l.mid l.top l.planes l.to l.lot l.served) l.least
