use Rattle.chain_dp.specs.Numbers.{IsLeastOf}
use Rattle.chain_dp.specs.Tables.{step_cost}
use Rattle.chain_dp.proofs.stretches.least_step.Given as goal

abbrev pub invariant-loop-lot : goal.invariant-loop-lot
invariant-loop-lot l = IsLeastOf l.first l.lot (step_cost l.row l.level l.to) l.least
