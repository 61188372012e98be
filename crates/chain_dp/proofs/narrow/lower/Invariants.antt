use Rattle.chain_dp.specs.States.{AreLowered}
use Rattle.chain_dp.proofs.narrow.lower.Given as goal

abbrev pub invariant-loop-place : goal.invariant-loop-place
invariant-loop-place l = AreLowered l.first l.place l.more l.others l.fn.costs l.costs
