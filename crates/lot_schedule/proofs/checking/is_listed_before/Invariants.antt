use Rattle.std.proofs.Common.{ℕ, ◌<◌}
use Rattle.lot_schedule.specs.Slots.{AreOfOneLot, slot_at}
use Rattle.lot_schedule.proofs.checking.is_listed_before.Given as goal

abbrev pub invariant-loop-earlier : goal.invariant-loop-earlier
invariant-loop-earlier l = (o : ℕ) → o < l.earlier → AreOfOneLot (slot_at l.slots o) (slot_at l.slots l.place) → ⊥
