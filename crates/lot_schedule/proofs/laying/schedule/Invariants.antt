use Rattle.plan_rules.specs.Held.{plan_of}
use Rattle.lot_schedule.specs.Lots.{IsLaidBefore}
use Rattle.lot_schedule.proofs.laying.schedule.Given as goal

abbrev pub invariant-loop-resource : goal.invariant-loop-resource
invariant-loop-resource l = IsLaidBefore l.instance (plan_of l.plan) l.slots.items l.resource 1
