use Rattle.lot_sizing.specs.Problem.{resource_count}
use Rattle.lot_sizing.specs.Plan.{IsWithinCapacity}
use Rattle.plan_rules.specs.Order.{HoldsBefore}
use Rattle.frozen_start.specs.Held.{start_of}
use Rattle.frozen_start.proofs.standing.times_suffice.Given as goal

abbrev pub invariant-loop-resource : goal.invariant-loop-resource
invariant-loop-resource l = HoldsBefore (resource_count l.instance) l.first (IsWithinCapacity l.instance (start_of l.make l.setup)) l.resource 1

abbrev pub invariant-loop-period : goal.invariant-loop-period
invariant-loop-period l = HoldsBefore (resource_count l.instance) l.first (IsWithinCapacity l.instance (start_of l.make l.setup)) l.resource l.period
