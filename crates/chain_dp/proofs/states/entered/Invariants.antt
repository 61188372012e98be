use Rattle.chain_dp.specs.States.{IsEntered}
use Rattle.chain_dp.proofs.states.entered.Given as goal

abbrev pub invariant-loop-before : goal.invariant-loop-before
invariant-loop-before l = IsEntered l.gaps l.stretches l.width l.served l.lot l.before l.row
