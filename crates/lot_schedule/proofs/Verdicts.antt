-- Slots whose resources, periods and items exist are a schedule, or something is wrong with them first.
use Rattle.std.proofs.Common.{◌<◌, ◌+◌, ◌⊎◌, ⊎_elim, inl, inr, ℕ, refl, arith, List, length}
use Rattle.std.proofs.lemmas.Bool.{cases_eq, cases_lt}
use Rattle.lot_sizing.specs.Problem.{Problem, capacity, item_count, resource_count}
use Rattle.lot_sizing.specs.Plan.{Each, Plan}
use Rattle.plan_rules.specs.Order.{HoldsInRow, IsFirst, IsFirstInRow}
use Rattle.lot_schedule.specs.Slots.{AllExist, AreOfOneLot, AreTogether, HasAll, HasSlot, IsOf, IsSchedule, length_of, slot_at, slot_length}
use Rattle.lot_schedule.specs.Faults.{IsBadSlot, IsExtra, IsFirstBad, IsFirstLack, IsGood, IsListedBefore, IsSlotBroken, Overlap, OverlapsEarlier}
use Rattle.lot_schedule.specs.Laws.{SlotsAreJudged}
use Rattle.lot_schedule.specs.declared.slot.Slot.{Slot}
use Rattle.lot_schedule.specs.declared.broken.SlotBroken.{SlotBroken}
use Rattle.lot_schedule.specs.declared.broken.SlotBroken.TheVariants as broken
use Rattle.lot_schedule.proofs.Checked.{schedule_of}
use Rattle.lot_schedule.proofs.Findings.{one_thing}
use Rattle.lot_schedule.proofs.Rowwise.{first_place}
use Rattle.lot_schedule.proofs.Searching.{first_below, first_to, some_below}

-- ---- two slots
together_or_not : (a b : Slot) → AreTogether a b ⊎ (AreTogether a b → ⊥)
together_or_not a b =
    ⊎_elim
    (λ k. ⊎_elim (λ t. inl (record { resource = k; period = t })) (λ no. inr (λ is. no is.period)) (cases_eq a.period b.period))
    (λ no. inr (λ is. no is.resource))
    (cases_eq a.resource b.resource)

one_lot_or_not : (a b : Slot) → AreOfOneLot a b ⊎ (AreOfOneLot a b → ⊥)
one_lot_or_not a b =
    ⊎_elim
    (λ together. ⊎_elim (λ i. inl (record { together = together; item = i })) (λ no. inr (λ is. no is.item)) (cases_eq a.item b.item))
    (λ no. inr (λ is. no is.together))
    (together_or_not a b)

overlap_or_not : (a b : Slot) → Overlap a b ⊎ (Overlap a b → ⊥)
overlap_or_not a b =
    ⊎_elim
    (λ first. ⊎_elim (λ second. inl (first, second)) (λ no. inr (λ both. omega (arith, no, both.1))) (cases_lt a.start b.end))
    (λ no. inr (λ both. omega (arith, no, both.0)))
    (cases_lt b.start a.end)

clash_or_not : (a b : Slot) → (AreTogether a b × Overlap a b) ⊎ (AreTogether a b × Overlap a b → ⊥)
clash_or_not a b =
    ⊎_elim
    (λ together. ⊎_elim (λ over. inl (together, over)) (λ no. inr (λ both. no both.1)) (overlap_or_not a b))
    (λ no. inr (λ both. no both.0))
    (together_or_not a b)

of_or_not : (k t i : ℕ) (s : Slot) → IsOf k t i s ⊎ (IsOf k t i s → ⊥)
of_or_not k t i s =
    ⊎_elim
    (λ resource. ⊎_elim
    (λ period. ⊎_elim (λ item. inl (record { resource = resource; period = period; item = item })) (λ no. inr (λ is. no is.item)) (cases_eq s.item i))
    (λ no. inr (λ is. no is.period))
    (cases_eq s.period t))
    (λ no. inr (λ is. no is.resource))
    (cases_eq s.resource k)

module _ (m : Problem) (p : Plan) (xs : List Slot) where
  -- ---- one slot
  listed_or_not : (n : ℕ) → IsListedBefore xs n ⊎ (IsListedBefore xs n → ⊥)
  listed_or_not n =
      ⊎_elim
      (λ found. inl found)
      (λ none. inr (λ is. none is.0 is.1 is.2))
      (some_below (λ o. AreOfOneLot (slot_at xs o) (slot_at xs n)) (λ o. one_lot_or_not (slot_at xs o) (slot_at xs n)) n)

  extra_or_not : (n : ℕ) → IsExtra m p xs n ⊎ (IsExtra m p xs n → ⊥)
  extra_or_not n =
      ⊎_elim
      (λ none. inl (inl none))
      (λ some. ⊎_elim
      (λ listed. inl (inr listed))
      (λ new. inr (λ extra. ⊎_elim (λ none. some none) (λ listed. new listed) extra))
      (listed_or_not n))
      (cases_eq (slot_length m p (slot_at xs n)) 0)

  clashes_or_not : (n : ℕ) → OverlapsEarlier xs n ⊎ (OverlapsEarlier xs n → ⊥)
  clashes_or_not n =
      ⊎_elim
      (λ found. inl (found.0, found.1, found.2.0, found.2.1))
      (λ none. inr (λ is. none is.0 is.1 (is.2, is.3)))
      (some_below (λ o. AreTogether (slot_at xs o) (slot_at xs n) × Overlap (slot_at xs o) (slot_at xs n)) (λ o. clash_or_not (slot_at xs o) (slot_at xs n)) n)

  good_or_bad : (n : ℕ) → IsGood m p xs n ⊎ ((b : SlotBroken) × IsBadSlot m p xs n b)
  good_or_bad n =
      ⊎_elim
      (λ extra. inr (broken.Extra (n + 1), (refl, extra)))
      (λ wanted. ⊎_elim
      (λ lasts. ⊎_elim
      (λ past. inr (broken.Past (n + 1), (refl, wanted, lasts, λ in_time. omega (arith, past, in_time))))
      (λ in_time. ⊎_elim
      (λ over. inr (broken.Overlap (n + 1), (refl, wanted, lasts, in_time, over)))
      (λ free. inl (record { wanted = wanted; lasts = lasts; in_time = in_time; free = free }))
      (clashes_or_not n))
      (cases_lt (capacity m (slot_at xs n).resource (slot_at xs n).period) (slot_at xs n).end))
      (λ no. inr (broken.Length (n + 1), (refl, wanted, no)))
      (cases_eq (slot_at xs n).end ((slot_at xs n).start + slot_length m p (slot_at xs n))))
      (extra_or_not n)

  broken_of : (b : SlotBroken) → IsFirstBad m p xs b → IsSlotBroken m p xs b
  broken_of (broken.Extra row) bad = bad
  broken_of (broken.Length row) bad = bad
  broken_of (broken.Past row) bad = bad
  broken_of (broken.Overlap row) bad = bad
  broken_of (broken.Absent k t i) (n, there, before, bad) = absurd bad

  -- ---- the lots
  slot_or_not : (k t i : ℕ) → HasSlot xs k t i ⊎ (HasSlot xs k t i → ⊥)
  slot_or_not k t i =
      ⊎_elim
      (λ found. inl found)
      (λ none. inr (λ has. none has.0 has.1 has.2))
      (some_below (λ n. IsOf k t i (slot_at xs n)) (λ n. of_or_not k t i (slot_at xs n)) (length xs))

  slot_or_lack : (k t i : ℕ) → (0 < length_of m p k t i → HasSlot xs k t i) ⊎ ((0 < length_of m p k t i) × (HasSlot xs k t i → ⊥))
  slot_or_lack k t i =
      ⊎_elim
      (λ takes. ⊎_elim (λ has. inl (λ _. has)) (λ no. inr (takes, no)) (slot_or_not k t i))
      (λ none. inl (λ takes. absurd (omega (arith, none, takes))))
      (cases_lt 0 (length_of m p k t i))

  all_or_lack : (k t : ℕ) → HasAll m p xs k t ⊎ ((i : ℕ) × IsFirstLack m p xs k t i)
  all_or_lack k t =
      ⊎_elim
      (λ all. inl all)
      (λ found. inr (found.0, record { low = found.1; high = found.2; takes = found.3.0; absent = found.3.1; before = found.4 }))
      (first_to (λ i. 0 < length_of m p k t i → HasSlot xs k t i) (λ i. (0 < length_of m p k t i) × (HasSlot xs k t i → ⊥)) (slot_or_lack k t) (item_count m))

  lacks : (k t i : ℕ) → IsFirstLack m p xs k t i → HasAll m p xs k t → ⊥
  lacks k t i lack all = lack.absent (all i lack.low lack.high lack.takes)

  row_or_lack : (k : ℕ) → HoldsInRow m.periods (HasAll m p xs) k ⊎ ((t : ℕ) × IsFirstInRow m.periods (HasAll m p xs) k t × ((i : ℕ) × IsFirstLack m p xs k t i))
  row_or_lack k =
      ⊎_elim
      (λ all. inl all)
      (λ found. inr (found.0, record { low = found.1; high = found.2; broken = lacks k found.0 found.3.0 found.3.1; before = found.4 }, found.3))
      (first_to (HasAll m p xs k) (λ t. (i : ℕ) × IsFirstLack m p xs k t i) (all_or_lack k) m.periods)

  each_or_lack : Each (resource_count m) m.periods (HasAll m p xs) ⊎ ((k t i : ℕ) × IsFirst (resource_count m) m.periods (HasAll m p xs) k t × IsFirstLack m p xs k t i)
  each_or_lack =
      ⊎_elim
      (λ all. inl (λ k t low high t_low t_high. all k low high t t_low t_high))
      (λ found.
      let (k, low, high, (t, first, (i, lack)), rows) = found in
      inr (k, t, i, first_place (resource_count m) m.periods (HasAll m p xs) k t low high (λ j u j_low j_high u_low u_high before. ⊎_elim (λ row. rows j j_low row u u_low u_high) (λ same. absurd (omega (arith, same.1, u_low))) before) first, lack))
      (first_to (HoldsInRow m.periods (HasAll m p xs)) (λ k. (t : ℕ) × IsFirstInRow m.periods (HasAll m p xs) k t × ((i : ℕ) × IsFirstLack m p xs k t i)) row_or_lack (resource_count m))

  schedule_or_broken : AllExist m xs → IsSchedule m p xs ⊎ ((b : SlotBroken) × IsSlotBroken m p xs b)
  schedule_or_broken exist =
      ⊎_elim
      (λ good. ⊎_elim
      (λ all. inl (schedule_of m p xs exist good all))
      (λ (k, t, i, first, lack). inr (broken.Absent k t i, (good, first, lack)))
      each_or_lack)
      (λ found. inr (found.2.0, broken_of found.2.0 (found.0, found.1, found.3, found.2.1)))
      (first_below (IsGood m p xs) (λ n. (b : SlotBroken) × IsBadSlot m p xs n b) good_or_bad (length xs))

pub slots_judged : SlotsAreJudged
slots_judged m p xs exist =
    ⊎_elim
    (λ all. inl all)
    (λ found. inr ((λ all. (one_thing m p xs).schedule_or_broken found.0 all found.1), found.0, found.1))
    (schedule_or_broken m p xs exist)
