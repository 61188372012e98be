use Rattle.std.proofs.Common.{ℕ, ◌<◌, ◌≤◌, length}
use Rattle.plan_rules.specs.Held.{plan_of}
use Rattle.lot_schedule.specs.Slots.{HasSlot, length_of}
use Rattle.lot_schedule.proofs.absent.check_items.Given as goal

abbrev pub invariant-loop-item : goal.invariant-loop-item
invariant-loop-item l = record { place : l.last ≤ length l.slots; found : (j : ℕ) → 1 ≤ j → j < l.item → 0 < length_of l.instance (plan_of l.plan) l.resource l.period j → HasSlot l.slots l.resource l.period j }
