use Rattle.std.proofs.Common.{ℕ, ◌<◌, ◌≤◌, length}
use Rattle.plan_rules.specs.Held.{plan_of}
use Rattle.lot_schedule.specs.Slots.{HasAll}
use Rattle.lot_schedule.proofs.absent.check_periods.Given as goal

abbrev pub invariant-loop-period : goal.invariant-loop-period
invariant-loop-period l = record { place : l.last ≤ length l.slots; found : (u : ℕ) → 1 ≤ u → u < l.period → HasAll l.instance (plan_of l.plan) l.slots l.resource u }
