use Rattle.first_plans.specs.Trials.{IsImproved}
use Rattle.first_plans.proofs.improving.sweep.Given as goal

abbrev pub invariant-loop-item : goal.invariant-loop-item
invariant-loop-item l = IsImproved l.instance l.fn.state l.state
