use Rattle.chain_dp.specs.States.{IsNarrowLeast, ending}
use Rattle.chain_dp.proofs.states.least_end.Given as goal

abbrev pub invariant-loop-served : goal.invariant-loop-served
invariant-loop-served l = IsNarrowLeast 0 l.served (ending l.low l.mid l.stretches l.table l.last l.lot) l.least
