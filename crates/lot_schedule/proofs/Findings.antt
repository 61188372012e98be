-- What is found of slots is one thing: in a schedule all slots are good, and of other slots one fault is first.
use Rattle.std.proofs.Common.{◌≡◌, ◌<◌, ◌∙◌, ◌⊎◌, ⊎_elim, ℕ, List, length, ap, arith, refl, subst, sym}
use Rattle.std.proofs.lemmas.Bool.{cases_order}
use Rattle.lot_sizing.specs.Problem.{Problem, resource_count}
use Rattle.lot_sizing.specs.Plan.{Plan}
use Rattle.plan_rules.specs.Order.{IsBefore, IsFirst}
use Rattle.lot_schedule.specs.Slots.{AreApart, HasAll, IsSchedule, slot_at}
use Rattle.lot_schedule.specs.Faults.{AreGoodBefore, IsBadSlot, IsFirstBad, IsFirstLack, IsGood, IsSlotBroken, Overlap}
use Rattle.lot_schedule.specs.Laws.{SlotsAreOneThing}
use Rattle.lot_schedule.specs.declared.slot.Slot.{Slot}
use Rattle.lot_schedule.specs.declared.broken.SlotBroken.{SlotBroken}
use Rattle.lot_schedule.specs.declared.broken.SlotBroken.TheVariants as broken

-- ---- slots of a schedule
not_both : (a b : Slot) → AreApart a b → Overlap a b → ⊥
not_both a b apart both = ⊎_elim (λ first. omega (arith, first, both.0)) (λ second. omega (arith, second, both.1)) apart

good_of : (m : Problem) (p : Plan) (xs : List Slot) → IsSchedule m p xs → (n : ℕ) → n < length xs → IsGood m p xs n
good_of m p xs all n there = record {
  wanted = λ extra. ⊎_elim (λ none. omega (arith, none, (all.slots n there).takes)) (λ listed. all.once listed.0 n listed.1 there listed.2) extra;
  lasts = (all.slots n there).lasts;
  in_time = (all.slots n there).within;
  free = λ over. not_both (slot_at xs over.0) (slot_at xs n) (all.apart over.0 n over.1 there over.2) over.3;
}

good_isnt_bad : (m : Problem) (p : Plan) (xs : List Slot) (n : ℕ) (b : SlotBroken) → IsGood m p xs n → IsBadSlot m p xs n b → ⊥
good_isnt_bad m p xs n (broken.Extra row) good bad = good.wanted bad.1
good_isnt_bad m p xs n (broken.Length row) good bad = bad.2 good.lasts
good_isnt_bad m p xs n (broken.Past row) good bad = bad.3 good.in_time
good_isnt_bad m p xs n (broken.Overlap row) good bad = good.free bad.4
good_isnt_bad m p xs n (broken.Absent k t i) good bad = bad

first_isnt : (m : Problem) (p : Plan) (xs : List Slot) (b : SlotBroken) → IsSchedule m p xs → IsFirstBad m p xs b → ⊥
first_isnt m p xs b all (n, there, before, bad) = good_isnt_bad m p xs n b (good_of m p xs all n there) bad

broken_isnt : (m : Problem) (p : Plan) (xs : List Slot) (b : SlotBroken) → IsSchedule m p xs → IsSlotBroken m p xs b → ⊥
broken_isnt m p xs (broken.Extra row) all bad = first_isnt m p xs (broken.Extra row) all bad
broken_isnt m p xs (broken.Length row) all bad = first_isnt m p xs (broken.Length row) all bad
broken_isnt m p xs (broken.Past row) all bad = first_isnt m p xs (broken.Past row) all bad
broken_isnt m p xs (broken.Overlap row) all bad = first_isnt m p xs (broken.Overlap row) all bad
broken_isnt m p xs (broken.Absent k t i) all bad =
    let first = bad.1 in
    let lack = bad.2 in
    lack.absent (all.all k t first.row_low first.row_high first.column_low first.column_high i lack.low lack.high lack.takes)

-- ---- one fault
same_slot : (m : Problem) (p : Plan) (xs : List Slot) (n : ℕ) (a b : SlotBroken) → IsBadSlot m p xs n a → IsBadSlot m p xs n b → a ≡ b
same_slot m p xs n (broken.Extra row) (broken.Extra other) x y = ap broken.Extra (x.0 ∙ sym y.0)
same_slot m p xs n (broken.Extra row) (broken.Length other) x y = absurd (y.1 x.1)
same_slot m p xs n (broken.Extra row) (broken.Past other) x y = absurd (y.1 x.1)
same_slot m p xs n (broken.Extra row) (broken.Overlap other) x y = absurd (y.1 x.1)
same_slot m p xs n (broken.Extra row) (broken.Absent k t i) x y = absurd y
same_slot m p xs n (broken.Length row) (broken.Extra other) x y = absurd (x.1 y.1)
same_slot m p xs n (broken.Length row) (broken.Length other) x y = ap broken.Length (x.0 ∙ sym y.0)
same_slot m p xs n (broken.Length row) (broken.Past other) x y = absurd (x.2 y.2)
same_slot m p xs n (broken.Length row) (broken.Overlap other) x y = absurd (x.2 y.2)
same_slot m p xs n (broken.Length row) (broken.Absent k t i) x y = absurd y
same_slot m p xs n (broken.Past row) (broken.Extra other) x y = absurd (x.1 y.1)
same_slot m p xs n (broken.Past row) (broken.Length other) x y = absurd (y.2 x.2)
same_slot m p xs n (broken.Past row) (broken.Past other) x y = ap broken.Past (x.0 ∙ sym y.0)
same_slot m p xs n (broken.Past row) (broken.Overlap other) x y = absurd (x.3 y.3)
same_slot m p xs n (broken.Past row) (broken.Absent k t i) x y = absurd y
same_slot m p xs n (broken.Overlap row) (broken.Extra other) x y = absurd (x.1 y.1)
same_slot m p xs n (broken.Overlap row) (broken.Length other) x y = absurd (y.2 x.2)
same_slot m p xs n (broken.Overlap row) (broken.Past other) x y = absurd (y.3 x.3)
same_slot m p xs n (broken.Overlap row) (broken.Overlap other) x y = ap broken.Overlap (x.0 ∙ sym y.0)
same_slot m p xs n (broken.Overlap row) (broken.Absent k t i) x y = absurd y
same_slot m p xs n (broken.Absent k t i) b x y = absurd x

same_bad : (m : Problem) (p : Plan) (xs : List Slot) (a b : SlotBroken) → IsFirstBad m p xs a → IsFirstBad m p xs b → a ≡ b
same_bad m p xs a b (n, n_there, n_before, n_bad) (o, o_there, o_before, o_bad) =
    ⊎_elim
    (λ e. same_slot m p xs n a b n_bad (subst (λ q. IsBadSlot m p xs q b) (sym e) o_bad))
    (λ other. ⊎_elim
    (λ less. absurd (good_isnt_bad m p xs n a (o_before n less) n_bad))
    (λ more. absurd (good_isnt_bad m p xs o b (n_before o more) o_bad))
    other)
    (cases_order n o)

order : (i t j u : ℕ) → IsBefore i t j u ⊎ (IsBefore j u i t ⊎ ((i ≡ j) × (t ≡ u)))
order i t j u = grind arith

same_first : (rows columns : ℕ) (R : ℕ → ℕ → Type 0) (i t j u : ℕ) → IsFirst rows columns R i t → IsFirst rows columns R j u → (i ≡ j) × (t ≡ u)
same_first rows columns R i t j u a b =
    ⊎_elim
    (λ sooner. absurd (a.broken (b.before i t a.row_low a.row_high a.column_low a.column_high sooner)))
    (⊎_elim (λ later. absurd (b.broken (a.before j u b.row_low b.row_high b.column_low b.column_high later))) (λ same. same))
    (order i t j u)

same_item : (m : Problem) (p : Plan) (xs : List Slot) (k t i j : ℕ) → IsFirstLack m p xs k t i → IsFirstLack m p xs k t j → i ≡ j
same_item m p xs k t i j a b =
    ⊎_elim
    (λ e. e)
    (λ other. ⊎_elim (λ less. absurd (a.absent (b.before i a.low less a.takes))) (λ more. absurd (b.absent (a.before j b.low more b.takes))) other)
    (cases_order i j)

same_absent : (m : Problem) (p : Plan) (xs : List Slot) (k t i j u l : ℕ) → IsSlotBroken m p xs (broken.Absent k t i) → IsSlotBroken m p xs (broken.Absent j u l) → broken.Absent k t i ≡ broken.Absent j u l
same_absent m p xs k t i j u l x y =
    let (row, column) = same_first (resource_count m) m.periods (HasAll m p xs) k t j u x.1 y.1 in
    let lack : IsFirstLack m p xs k t l = subst (λ r. IsFirstLack m p xs r t l) (sym row) (subst (λ v. IsFirstLack m p xs j v l) (sym column) y.2) in
    let item = same_item m p xs k t i l x.2 lack in
    rw (row, column, item) refl

not_absent : (m : Problem) (p : Plan) (xs : List Slot) (a : SlotBroken) → IsFirstBad m p xs a → AreGoodBefore m p xs (length xs) → ⊥
not_absent m p xs a (n, there, before, bad) good = good_isnt_bad m p xs n a (good n there) bad

one_broken : (m : Problem) (p : Plan) (xs : List Slot) (a b : SlotBroken) → IsSlotBroken m p xs a → IsSlotBroken m p xs b → a ≡ b
one_broken m p xs (broken.Absent k t i) (broken.Absent j u l) x y = same_absent m p xs k t i j u l x y
one_broken m p xs (broken.Absent k t i) (broken.Extra row) x y = absurd (not_absent m p xs (broken.Extra row) y x.0)
one_broken m p xs (broken.Absent k t i) (broken.Length row) x y = absurd (not_absent m p xs (broken.Length row) y x.0)
one_broken m p xs (broken.Absent k t i) (broken.Past row) x y = absurd (not_absent m p xs (broken.Past row) y x.0)
one_broken m p xs (broken.Absent k t i) (broken.Overlap row) x y = absurd (not_absent m p xs (broken.Overlap row) y x.0)
one_broken m p xs (broken.Extra row) (broken.Absent k t i) x y = absurd (not_absent m p xs (broken.Extra row) x y.0)
one_broken m p xs (broken.Length row) (broken.Absent k t i) x y = absurd (not_absent m p xs (broken.Length row) x y.0)
one_broken m p xs (broken.Past row) (broken.Absent k t i) x y = absurd (not_absent m p xs (broken.Past row) x y.0)
one_broken m p xs (broken.Overlap row) (broken.Absent k t i) x y = absurd (not_absent m p xs (broken.Overlap row) x y.0)
one_broken m p xs (broken.Extra row) (broken.Extra other) x y = same_bad m p xs (broken.Extra row) (broken.Extra other) x y
one_broken m p xs (broken.Extra row) (broken.Length other) x y = same_bad m p xs (broken.Extra row) (broken.Length other) x y
one_broken m p xs (broken.Extra row) (broken.Past other) x y = same_bad m p xs (broken.Extra row) (broken.Past other) x y
one_broken m p xs (broken.Extra row) (broken.Overlap other) x y = same_bad m p xs (broken.Extra row) (broken.Overlap other) x y
one_broken m p xs (broken.Length row) (broken.Extra other) x y = same_bad m p xs (broken.Length row) (broken.Extra other) x y
one_broken m p xs (broken.Length row) (broken.Length other) x y = same_bad m p xs (broken.Length row) (broken.Length other) x y
one_broken m p xs (broken.Length row) (broken.Past other) x y = same_bad m p xs (broken.Length row) (broken.Past other) x y
one_broken m p xs (broken.Length row) (broken.Overlap other) x y = same_bad m p xs (broken.Length row) (broken.Overlap other) x y
one_broken m p xs (broken.Past row) (broken.Extra other) x y = same_bad m p xs (broken.Past row) (broken.Extra other) x y
one_broken m p xs (broken.Past row) (broken.Length other) x y = same_bad m p xs (broken.Past row) (broken.Length other) x y
one_broken m p xs (broken.Past row) (broken.Past other) x y = same_bad m p xs (broken.Past row) (broken.Past other) x y
one_broken m p xs (broken.Past row) (broken.Overlap other) x y = same_bad m p xs (broken.Past row) (broken.Overlap other) x y
one_broken m p xs (broken.Overlap row) (broken.Extra other) x y = same_bad m p xs (broken.Overlap row) (broken.Extra other) x y
one_broken m p xs (broken.Overlap row) (broken.Length other) x y = same_bad m p xs (broken.Overlap row) (broken.Length other) x y
one_broken m p xs (broken.Overlap row) (broken.Past other) x y = same_bad m p xs (broken.Overlap row) (broken.Past other) x y
one_broken m p xs (broken.Overlap row) (broken.Overlap other) x y = same_bad m p xs (broken.Overlap row) (broken.Overlap other) x y

pub one_thing : SlotsAreOneThing
one_thing m p xs = record { schedule_or_broken = λ b all bad. broken_isnt m p xs b all bad; one_broken = one_broken m p xs }
