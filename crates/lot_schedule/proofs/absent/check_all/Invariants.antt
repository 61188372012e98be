use Rattle.std.proofs.Common.{◌≤◌, length}
use Rattle.lot_sizing.specs.Problem.{resource_count}
use Rattle.plan_rules.specs.Held.{plan_of}
use Rattle.plan_rules.specs.Order.{HoldsBefore}
use Rattle.lot_schedule.specs.Slots.{HasAll}
use Rattle.lot_schedule.proofs.absent.check_all.Given as goal

abbrev pub invariant-loop-resource : goal.invariant-loop-resource
invariant-loop-resource l = record { place : l.last ≤ length l.slots; found : HoldsBefore (resource_count l.instance) l.instance.periods (HasAll l.instance (plan_of l.plan) l.slots) l.resource 1 }
