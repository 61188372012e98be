use Rattle.plan_rules.specs.Cells.{Fits}
use Rattle.first_plans.proofs.kicks.kick.Given as goal

abbrev pub invariant-loop-change : goal.invariant-loop-change
invariant-loop-change l = Fits l.instance l.wanted
