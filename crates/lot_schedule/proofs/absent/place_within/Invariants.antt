use Rattle.std.proofs.Common.{ℕ, ◌<◌, ◌≤◌}
use Rattle.lot_schedule.specs.Slots.{IsOf, slot_at}
use Rattle.lot_schedule.proofs.absent.place_within.Given as goal

abbrev pub invariant-loop-place : goal.invariant-loop-place
invariant-loop-place l = (n : ℕ) → l.low ≤ n → n < l.place → IsOf l.resource l.period l.item (slot_at l.slots n) → ⊥
