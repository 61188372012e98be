use Rattle.first_plans.specs.Trials.{IsImproved}
use Rattle.first_plans.proofs.improving.try_period.Given as goal

abbrev pub invariant-loop-to : goal.invariant-loop-to
invariant-loop-to l = IsImproved l.instance l.fn.state l.state
