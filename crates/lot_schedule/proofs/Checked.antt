-- Good slots with all lots are a schedule.
use Rattle.std.proofs.Common.{◌<◌, ◌+◌, ⊎_elim, inl, inr, ℕ, List, length, subst, arith}
use Rattle.std.proofs.lemmas.Bool.{cases_lt}
use Rattle.lot_sizing.specs.Problem.{Problem, resource_count}
use Rattle.lot_sizing.specs.Plan.{Each, Plan}
use Rattle.lot_schedule.specs.Slots.{AllExist, AreApart, HasAll, IsSchedule, IsSlot, slot_at, slot_length}
use Rattle.lot_schedule.specs.Faults.{AreGoodBefore, IsGood, Overlap}
use Rattle.lot_schedule.specs.declared.slot.Slot.{Slot}

-- ---- good slots
pub good_next : (m : Problem) (p : Plan) (xs : List Slot) (n : ℕ) → AreGoodBefore m p xs n → IsGood m p xs n → AreGoodBefore m p xs (n + 1)
good_next m p xs n so_far here o less = ⊎_elim (λ before. so_far o before) (λ no. subst (IsGood m p xs) (omega (arith, no, less)) here) (cases_lt o n)

good_slot : (m : Problem) (p : Plan) (xs : List Slot) → AllExist m xs → (n : ℕ) → n < length xs → IsGood m p xs n → IsSlot m p (slot_at xs n)
good_slot m p xs exist n there good = record {
  exists = exist n there;
  takes = ⊎_elim (λ takes. takes) (λ no. absurd (good.wanted (inl (omega (arith, no))))) (cases_lt 0 (slot_length m p (slot_at xs n)));
  lasts = good.lasts;
  within = good.in_time;
}

apart_or : (a b : Slot) → (Overlap a b → ⊥) → AreApart a b
apart_or a b free =
    ⊎_elim
    (λ first. ⊎_elim (λ second. absurd (free (first, second))) (λ no. inr no) (cases_lt a.start b.end))
    (λ no. inl no)
    (cases_lt b.start a.end)

pub schedule_of : (m : Problem) (p : Plan) (xs : List Slot) → AllExist m xs → AreGoodBefore m p xs (length xs) → Each (resource_count m) m.periods (HasAll m p xs) → IsSchedule m p xs
schedule_of m p xs exist good all = record {
  slots = λ n there. good_slot m p xs exist n there (good n there);
  once = λ n o less there one. (good o there).wanted (inr (n, less, one));
  apart = λ n o less there together. apart_or (slot_at xs n) (slot_at xs o) (λ both. (good o there).free (n, less, together, both));
  all = all;
}
