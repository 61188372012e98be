use Rattle.plan_rules.specs.Cells.{Fits}
use Rattle.first_plans.proofs.trials.change_along.Given as goal

abbrev pub invariant-loop-component : goal.invariant-loop-component
invariant-loop-component l = Fits l.instance l.wanted
