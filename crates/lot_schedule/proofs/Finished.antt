-- The slots of all resources are a schedule, in order, with the least sums of ends.
use Rattle.std.proofs.Common.{◌≡◌, ◌≤◌, ◌<◌, ◌+◌, ◌-◌, ◌*◌, ⊎_elim, inl, inr, ℕ, List, [], length, min, subst, arith}
use Rattle.std.proofs.Math.Nat.{min-eq_left, min-le_left, min-le_right}
use Rattle.std.proofs.lemmas.Bool.{cases_lt}
use Rattle.lot_sizing.specs.Problem.{IsWithinLimits, Problem, resource_count}
use Rattle.lot_sizing.specs.declared.limits.TheConstants.{MAX_ITEMS, MAX_PERIODS, MAX_RESOURCES}
use Rattle.lot_sizing.specs.Plan.{Plan}
use Rattle.plan_rules.specs.Order.{HoldsBefore, IsBefore}
use Rattle.lot_schedule.specs.Slots.{AreApart, AreOfOneLot, AreTogether, IsSchedule, IsSlot, length_of, slot_at, slot_length}
use Rattle.lot_schedule.specs.Orders.{ComesBefore, HasLeastEnds, IsInOrder, TiesAreByItem}
use Rattle.lot_schedule.specs.Lots.{Follows, IsLaidBefore}
use Rattle.lot_schedule.specs.declared.slot.Slot.{Slot}
use Rattle.lot_schedule.proofs.Schedules.{schedule_pairs}

-- nothing is laid at first
none_before : (rows columns : ℕ) (R : ℕ → ℕ → Type 0) → HoldsBefore rows columns R 1 1
none_before rows columns R j u low high u_low u_high before = absurd (⊎_elim (λ row. omega (arith, row, low)) (λ same. omega (arith, same.1, u_low)) before)

pub begun : (m : Problem) (p : Plan) → IsLaidBefore m p [] 1 1
begun m p = record {
  slots = λ n less. absurd (omega (arith, less));
  before = λ n less. absurd (omega (arith, less));
  order = λ n o less there. absurd (omega (arith, there));
  all = none_before (resource_count m) m.periods _;
  ends = none_before (resource_count m) m.periods _;
  few = omega arith;
}

-- after the last period the next resource begins
next_row : (j u k t T : ℕ) → u ≤ T → T < t → IsBefore j u (k + 1) 1 → 1 ≤ u → IsBefore j u k t
next_row j u k t T u_high past before u_low =
    ⊎_elim (λ row. ⊎_elim (λ less. inl less) (λ no. inr (omega (arith, no, row), omega (arith, u_high, past))) (cases_lt j k)) (λ same. absurd (omega (arith, same.1, u_low))) before

row_done : (a b k t : ℕ) → IsBefore a b k t → IsBefore a b (k + 1) 1
row_done a b k t before = ⊎_elim (λ row. inl (omega (arith, row))) (λ same. inl (omega (arith, same.0))) before

next_few : (m : Problem) (p : Plan) (xs : List Slot) (k t : ℕ) → IsWithinLimits m → 1 ≤ k → k ≤ resource_count m → IsLaidBefore m p xs k t → length xs ≤ MAX_ITEMS * MAX_PERIODS * min (k + 1 - 1) MAX_RESOURCES + MAX_ITEMS * min (1 - 1) MAX_PERIODS
next_few m p xs k t limits low high so_far =
    let now : min (k - 1) MAX_RESOURCES ≡ k - 1 = min-eq_left (omega (arith, high, limits.resources)) in
    let next : min (k + 1 - 1) MAX_RESOURCES ≡ k + 1 - 1 = min-eq_left (omega (arith, high, limits.resources)) in
    omega (arith, so_far.few, now, next, low, min-le_right (t - 1) MAX_PERIODS)

pub next_resource : (m : Problem) (p : Plan) (xs : List Slot) (k t : ℕ) → IsWithinLimits m → 1 ≤ k → k ≤ resource_count m → IsLaidBefore m p xs k t → m.periods < t → IsLaidBefore m p xs (k + 1) 1
next_resource m p xs k t limits low high so_far past = record {
  slots = so_far.slots;
  before = λ n less. row_done (slot_at xs n).resource (slot_at xs n).period k t (so_far.before n less);
  order = so_far.order;
  all = λ j u j_low j_high u_low u_high before. so_far.all j u j_low j_high u_low u_high (next_row j u k t m.periods u_high past before u_low);
  ends = λ j u j_low j_high u_low u_high before. so_far.ends j u j_low j_high u_low u_high (next_row j u k t m.periods u_high past before u_low);
  few = next_few m p xs k t limits low high so_far;
}

-- what follows another slot
not_before : (a b : Slot) → AreTogether a b → IsBefore a.resource a.period b.resource b.period → ⊥
not_before a b together before = ⊎_elim (λ row. omega (arith, row, together.resource)) (λ same. omega (arith, same.1, together.period)) before

not_twice : (m : Problem) (p : Plan) (a b : Slot) → Follows m p a b → slot_length m p a ≡ slot_length m p b → AreOfOneLot a b → ⊥
not_twice m p a b follows same one =
    ⊎_elim
    (λ before. not_before a b one.together before)
    (λ after. ⊎_elim (λ shorter. omega (arith, shorter, same)) (λ tie. omega (arith, tie.1, one.item)) after.2)
    follows

same_length : (m : Problem) (p : Plan) (a b : Slot) → AreOfOneLot a b → slot_length m p a ≡ slot_length m p b
same_length m p a b one =
    subst (λ r. length_of m p a.resource a.period a.item ≡ length_of m p r b.period b.item) one.together.resource
    (subst (λ u. length_of m p a.resource a.period a.item ≡ length_of m p a.resource u b.item) one.together.period
    (subst (λ i. length_of m p a.resource a.period a.item ≡ length_of m p a.resource a.period i) one.item (omega arith)))

ends_first : (m : Problem) (p : Plan) (a b : Slot) → Follows m p a b → AreTogether a b → AreApart a b
ends_first m p a b follows together = ⊎_elim (λ before. absurd (not_before a b together before)) (λ after. inl after.1) follows

pub is_schedule : (m : Problem) (p : Plan) (xs : List Slot) (k : ℕ) → IsLaidBefore m p xs k 1 → resource_count m < k → IsSchedule m p xs
is_schedule m p xs k all past = record {
  slots = all.slots;
  once = λ n o less there one. not_twice m p (slot_at xs n) (slot_at xs o) (all.order n o less there) (same_length m p (slot_at xs n) (slot_at xs o) one) one;
  apart = λ n o less there together. ends_first m p (slot_at xs n) (slot_at xs o) (all.order n o less there) together;
  all = λ j u low high u_low u_high. all.all j u low high u_low u_high (inl (omega (arith, high, past)));
}

comes_before : (m : Problem) (p : Plan) (a b : Slot) → IsSlot m p a → Follows m p a b → ComesBefore a b
comes_before m p a b slot follows =
    ⊎_elim
    (λ before. ⊎_elim (λ row. inl row) (λ same. inr (same.0, inl same.1)) before)
    (λ after. inr (after.0.resource, inr (after.0.period, omega (arith, slot.takes, slot.lasts, after.1))))
    follows

pub is_in_order : (m : Problem) (p : Plan) (xs : List Slot) (k : ℕ) → IsLaidBefore m p xs k 1 → IsInOrder xs
is_in_order m p xs k all n o less there = comes_before m p (slot_at xs n) (slot_at xs o) (all.slots n (omega (arith, less, there))) (all.order n o less there)

pub ties_by_item : (m : Problem) (p : Plan) (xs : List Slot) (k : ℕ) → IsLaidBefore m p xs k 1 → TiesAreByItem m p xs
ties_by_item m p xs k all n o less there together same =
    ⊎_elim
    (λ before. absurd (not_before (slot_at xs n) (slot_at xs o) together before))
    (λ after. ⊎_elim (λ shorter. absurd (omega (arith, shorter, same))) (λ tie. tie.1) after.2)
    (all.order n o less there)

pub few_slots : (m : Problem) (p : Plan) (xs : List Slot) (k : ℕ) → IsLaidBefore m p xs k 1 → length xs ≤ MAX_ITEMS * MAX_PERIODS * MAX_RESOURCES
few_slots m p xs k all = omega (arith, all.few, min-le_right (k - 1) MAX_RESOURCES, min-le_left (1 - 1) MAX_PERIODS)

pub has_least_ends : (m : Problem) (p : Plan) (xs : List Slot) (k : ℕ) → IsLaidBefore m p xs k 1 → resource_count m < k → HasLeastEnds m p xs
has_least_ends m p xs k all past ys other j u low high u_low u_high =
    omega (arith, all.ends j u low high u_low u_high (inl (omega (arith, high, past))), schedule_pairs m p ys other j u low high u_low u_high)
