use Rattle.plan_rules.specs.Held.{plan_of}
use Rattle.lot_schedule.specs.Lots.{IsLaidBefore}
use Rattle.lot_schedule.proofs.laying.add_resource.Given as goal

abbrev pub invariant-loop-period : goal.invariant-loop-period
invariant-loop-period l = IsLaidBefore l.instance (plan_of l.plan) l.slots.items l.resource l.period
