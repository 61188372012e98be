use Rattle.std.proofs.Common.{ℕ, ◌<◌}
use Rattle.lot_schedule.specs.Slots.{AreTogether, slot_at}
use Rattle.lot_schedule.specs.Faults.{Overlap}
use Rattle.lot_schedule.proofs.checking.overlaps_earlier.Given as goal

abbrev pub invariant-loop-earlier : goal.invariant-loop-earlier
invariant-loop-earlier l = (o : ℕ) → o < l.earlier → AreTogether (slot_at l.slots o) (slot_at l.slots l.place) → Overlap (slot_at l.slots o) (slot_at l.slots l.place) → ⊥
