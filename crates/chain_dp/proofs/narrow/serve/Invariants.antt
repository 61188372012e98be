use Rattle.chain_dp.specs.States.{AreServed}
use Rattle.chain_dp.proofs.narrow.serve.Given as goal

abbrev pub invariant-loop-place : goal.invariant-loop-place
invariant-loop-place l = AreServed l.first l.place l.paid l.price l.units l.fn.costs l.costs
