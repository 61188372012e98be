use Rattle.first_plans.specs.Trials.{IsImproved}
use Rattle.first_plans.proofs.improving.sweeps.Given as goal

abbrev pub invariant-loop-sweep : goal.invariant-loop-sweep
invariant-loop-sweep l = IsImproved l.instance l.fn.state l.state
