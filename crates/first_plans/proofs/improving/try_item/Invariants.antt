use Rattle.first_plans.specs.Trials.{IsImproved}
use Rattle.first_plans.proofs.improving.try_item.Given as goal

abbrev pub invariant-loop-period : goal.invariant-loop-period
invariant-loop-period l = IsImproved l.instance l.fn.state l.state
