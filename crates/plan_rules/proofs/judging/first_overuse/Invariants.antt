use Rattle.lot_sizing.specs.Problem.{resource_count}
use Rattle.lot_sizing.specs.Plan.{IsWithinCapacity}
use Rattle.plan_rules.specs.Held.{plan_of}
use Rattle.plan_rules.specs.Order.{HoldsBefore}
use Rattle.plan_rules.proofs.judging.first_overuse.Given as goal

abbrev pub invariant-loop-resource : goal.invariant-loop-resource
invariant-loop-resource l = HoldsBefore (resource_count l.instance) l.instance.periods (IsWithinCapacity l.instance (plan_of l.plan)) l.resource 1
