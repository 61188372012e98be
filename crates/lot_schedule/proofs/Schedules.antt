-- A schedule's slots by item, and what the sum of their ends is at least.
use Rattle.std.proofs.Common.{◌≡◌, ◌≤◌, ◌<◌, ◌+◌, ◌*◌, ◌∙◌, ◌⊎◌, ⊎_elim, inl, inr, ℕ, true, List, length, sym, ap, arith}
use Rattle.std.specs.Prelude.{◌==◌, ◌&&◌}
use Rattle.std.proofs.lemmas.Bool.{and_from, and_parts, cases_lt, cases_order, eq-eqb, eqb-true, false_from_ne_true}
use Rattle.lot_sizing.specs.Problem.{Problem, item_count, resource_count}
use Rattle.lot_sizing.specs.Plan.{Each, Plan}
use Rattle.lot_sizing.specs.Sums.{sum_to}
use Rattle.lot_schedule.specs.Slots.{AreOfOneLot, AreTogether, IsOf, IsSchedule, length_of, no_slot, slot_at, slot_length}
use Rattle.lot_schedule.specs.Orders.{is_at, sum_of_ends}
use Rattle.lot_schedule.specs.Lots.{pair_sum}
use Rattle.lot_schedule.specs.declared.slot.Slot.{Slot}
use Rattle.lot_schedule.proofs.Terms.{by_items, none_passes, one_passes, passing}
use Rattle.lot_schedule.proofs.Pairs.{AreDisjoint, pairs_within}

-- the sum of g over the slots of an item
abbrev pub of_item : List Slot → ℕ → ℕ → ℕ → (Slot → ℕ) → ℕ
of_item xs k t i g = passing (λ s. is_at k t s && (s.item == i)) g xs

passes : (k t i : ℕ) (s : Slot) → IsOf k t i s → (is_at k t s && (s.item == i)) ≡ true
passes k t i s is = and_from (is_at k t s) (s.item == i) (and_from (s.resource == k) (s.period == t) (eq-eqb s.resource k is.resource) (eq-eqb s.period t is.period)) (eq-eqb s.item i is.item)

is_passed : (k t i : ℕ) (s : Slot) → (is_at k t s && (s.item == i)) ≡ true → IsOf k t i s
is_passed k t i s passed =
    let (here, item) = and_parts (is_at k t s) (s.item == i) passed in
    let (resource, period) = and_parts (s.resource == k) (s.period == t) here in
    record { resource = eqb-true s.resource k resource; period = eqb-true s.period t period; item = eqb-true s.item i item }

pub length_is : (m : Problem) (p : Plan) (k t i : ℕ) (s : Slot) → IsOf k t i s → slot_length m p s ≡ length_of m p k t i
length_is m p k t i s is = ap (λ r. length_of m p r s.period s.item) is.resource ∙ ap (λ u. length_of m p k u s.item) is.period ∙ ap (λ j. length_of m p k t j) is.item

pub one_lot : (k t i : ℕ) (a b : Slot) → IsOf k t i a → IsOf k t i b → AreOfOneLot a b
one_lot k t i a b x y = record { together = record { resource = x.resource ∙ sym y.resource; period = x.period ∙ sym y.period }; item = x.item ∙ sym y.item }

-- a slot of an item is the only one
only_one : (m : Problem) (p : Plan) (xs : List Slot) → IsSchedule m p xs → (k t i n o : ℕ) → n < length xs → o < length xs → IsOf k t i (slot_at xs n) → IsOf k t i (slot_at xs o) → o ≡ n
only_one m p xs all k t i n o n_there o_there x y =
    ⊎_elim
    (λ e. e)
    (λ other. ⊎_elim
    (λ less. absurd (all.once o n less n_there (one_lot k t i (slot_at xs o) (slot_at xs n) y x)))
    (λ more. absurd (all.once n o more o_there (one_lot k t i (slot_at xs n) (slot_at xs o) x y)))
    other)
    (cases_order o n)

found : (m : Problem) (p : Plan) (xs : List Slot) (g : Slot → ℕ) → IsSchedule m p xs → (k t i n : ℕ) → n < length xs → IsOf k t i (slot_at xs n) → of_item xs k t i g ≡ g (slot_at xs n)
found m p xs g all k t i n there is =
    one_passes (λ s. is_at k t s && (s.item == i)) g no_slot xs n there (passes k t i (slot_at xs n) is) (λ o less yes. only_one m p xs all k t i n o there less is (is_passed k t i (slot_at xs o) yes))

missing : (m : Problem) (p : Plan) (xs : List Slot) (g : Slot → ℕ) → IsSchedule m p xs → (k t i : ℕ) → length_of m p k t i ≡ 0 → of_item xs k t i g ≡ 0
missing m p xs g all k t i none =
    none_passes (λ s. is_at k t s && (s.item == i)) g no_slot xs (λ n less.
    false_from_ne_true (is_at k t (slot_at xs n) && ((slot_at xs n).item == i)) (λ yes. omega (arith, none, length_is m p k t i (slot_at xs n) (is_passed k t i (slot_at xs n) yes), (all.slots n less).takes)))

-- the slots of an item with a length
pub record IsPlaced (xs : List Slot) (k t i n : ℕ) : Type 0 where
  pub there : n < length xs
  pub is : IsOf k t i (slot_at xs n)
  pub start : of_item xs k t i (λ s. s.start) ≡ (slot_at xs n).start
  pub end : of_item xs k t i (λ s. s.end) ≡ (slot_at xs n).end

placed : (m : Problem) (p : Plan) (xs : List Slot) → IsSchedule m p xs → (k t : ℕ) → 1 ≤ k → k ≤ resource_count m → 1 ≤ t → t ≤ m.periods → (i : ℕ) → 1 ≤ i → i ≤ item_count m → 0 < length_of m p k t i → (n : ℕ) × IsPlaced xs k t i n
placed m p xs all k t k_low k_high t_low t_high i low high takes =
    let (n, there, is) = all.all k t k_low k_high t_low t_high i low high takes in
    (n, record { there = there; is = is; start = found m p xs (λ s. s.start) all k t i n there is; end = found m p xs (λ s. s.end) all k t i n there is })

lasts : (m : Problem) (p : Plan) (xs : List Slot) → IsSchedule m p xs → (k t : ℕ) → 1 ≤ k → k ≤ resource_count m → 1 ≤ t → t ≤ m.periods → (i : ℕ) → 1 ≤ i → i ≤ item_count m → of_item xs k t i (λ s. s.end) ≡ of_item xs k t i (λ s. s.start) + length_of m p k t i
lasts m p xs all k t k_low k_high t_low t_high i low high =
    ⊎_elim
    (λ takes.
    let (n, at) = placed m p xs all k t k_low k_high t_low t_high i low high takes in
    omega (arith, at.start, at.end, (all.slots n at.there).lasts, length_is m p k t i (slot_at xs n) at.is))
    (λ no.
    let none : length_of m p k t i ≡ 0 = omega (arith, no) in
    omega (arith, none, missing m p xs (λ s. s.start) all k t i none, missing m p xs (λ s. s.end) all k t i none))
    (cases_lt 0 (length_of m p k t i))

-- the slots of two items of one resource and period, at their places
places_apart : (m : Problem) (p : Plan) (xs : List Slot) → IsSchedule m p xs → (k t i j n o : ℕ) → i < j → IsPlaced xs k t i n → IsPlaced xs k t j o → ((slot_at xs n).end ≤ (slot_at xs o).start) ⊎ ((slot_at xs o).end ≤ (slot_at xs n).start)
places_apart m p xs all k t i j n o less x y =
    let together : AreTogether (slot_at xs n) (slot_at xs o) = record { resource = x.is.resource ∙ sym y.is.resource; period = x.is.period ∙ sym y.is.period } in
    let back : AreTogether (slot_at xs o) (slot_at xs n) = record { resource = y.is.resource ∙ sym x.is.resource; period = y.is.period ∙ sym x.is.period } in
    ⊎_elim
    (λ same. absurd (omega (arith, less, x.is.item, y.is.item, ap (λ a. (slot_at xs a).item) same)))
    (λ other. ⊎_elim
    (λ before. all.apart n o before y.there together)
    (λ after. ⊎_elim (λ a. inr a) (λ b. inl b) (all.apart o n after x.there back))
    other)
    (cases_order n o)

apart : (m : Problem) (p : Plan) (xs : List Slot) → IsSchedule m p xs → (k t : ℕ) → 1 ≤ k → k ≤ resource_count m → 1 ≤ t → t ≤ m.periods → (i j : ℕ) → 1 ≤ i → i < j → j ≤ item_count m → (of_item xs k t i (λ s. s.end) ≤ of_item xs k t j (λ s. s.start)) ⊎ (of_item xs k t j (λ s. s.end) ≤ of_item xs k t i (λ s. s.start))
apart m p xs all k t k_low k_high t_low t_high i j low less high =
    ⊎_elim
    (λ takes. ⊎_elim
    (λ also.
    let (n, x) = placed m p xs all k t k_low k_high t_low t_high i low (omega (arith, less, high)) takes in
    let (o, y) = placed m p xs all k t k_low k_high t_low t_high j (omega (arith, low, less)) high also in
    ⊎_elim (λ a. inl (omega (arith, a, x.end, y.start))) (λ b. inr (omega (arith, b, y.end, x.start))) (places_apart m p xs all k t i j n o less x y))
    (λ no. inr (omega (arith, missing m p xs (λ s. s.end) all k t j (omega (arith, no)))))
    (cases_lt 0 (length_of m p k t j)))
    (λ no. inl (omega (arith, missing m p xs (λ s. s.end) all k t i (omega (arith, no)))))
    (cases_lt 0 (length_of m p k t i))

-- no schedule has a smaller sum of ends than the lesser lengths of all ordered pairs give
pub schedule_pairs : (m : Problem) (p : Plan) (xs : List Slot) → IsSchedule m p xs → Each (resource_count m) m.periods (λ k t. pair_sum (item_count m) (length_of m p k t) ≤ 2 * sum_of_ends xs k t)
schedule_pairs m p xs all k t k_low k_high t_low t_high =
    let disjoint : AreDisjoint (item_count m) (λ i. of_item xs k t i (λ s. s.start)) (λ i. of_item xs k t i (λ s. s.end)) (length_of m p k t) = record {
      lasts = λ i low high. lasts m p xs all k t k_low k_high t_low t_high i low high;
      apart = λ i j low less high. apart m p xs all k t k_low k_high t_low t_high i j low less high;
    } in
    let whole : sum_of_ends xs k t ≡ sum_to (item_count m) (λ i. of_item xs k t i (λ s. s.end)) = by_items (is_at k t) (λ s. s.item) (λ s. s.end) no_slot (item_count m) xs (λ n less. ((all.slots n less).exists.item_low, (all.slots n less).exists.item_high)) in
    omega (arith, whole, pairs_within (item_count m) (λ i. of_item xs k t i (λ s. s.start)) (λ i. of_item xs k t i (λ s. s.end)) (length_of m p k t) disjoint)
