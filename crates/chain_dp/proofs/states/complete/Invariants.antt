use Rattle.chain_dp.specs.States.{IsCompleted}
use Rattle.chain_dp.proofs.states.complete.Given as goal

abbrev pub invariant-loop-opened : goal.invariant-loop-opened
invariant-loop-opened l = IsCompleted l.low l.mid l.top l.state.lot l.state.served l.opened l.fn.row l.row
