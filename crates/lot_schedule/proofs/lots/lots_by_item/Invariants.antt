use Rattle.std.proofs.Common.{◌-◌}
use Rattle.plan_rules.specs.Held.{plan_of}
use Rattle.lot_schedule.specs.Lots.{AreLotsTo}
use Rattle.lot_schedule.proofs.lots.lots_by_item.Given as goal

abbrev pub invariant-loop-item : goal.invariant-loop-item
invariant-loop-item l = AreLotsTo l.instance (plan_of l.plan) l.resource l.period (l.item - 1) l.lots.items
