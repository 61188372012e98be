use Rattle.chain_dp.specs.Numbers.{IsLeastOf}
use Rattle.chain_dp.specs.Tables.{end_cost}
use Rattle.chain_dp.proofs.pairs.least_end.Given as goal

abbrev pub invariant-loop-served : goal.invariant-loop-served
invariant-loop-served l = IsLeastOf 0 l.served (end_cost l.low l.mid l.stretches l.plane l.last l.lot) l.least
