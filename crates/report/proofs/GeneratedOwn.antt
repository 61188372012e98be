-- In a generated problem each lot can be made in the period that asks for it.
use Rattle.std.proofs.Common.{◌≡◌, ◌≤◌, ◌<◌, ◌+◌, ◌-◌, ◌*◌, ◌%◌, ◌∙◌, ⊎_elim, ℕ, zero, suc, List, Option, Some, None, Bool, true, false, slice_index_or, refl, sym, ap, arith}
use Rattle.std.specs.Prelude.{if◌then◌else◌, ◌==◌, IsNone}
use Rattle.std.specs.List.{sum_by}
use Rattle.std.proofs.lemmas.Bool.{cases_Bool}
use Rattle.std.proofs.lemmas.List.{get_or-replicate}
use Rattle.lot_sizing.specs.declared.Usage.{Usage}
use Rattle.lot_sizing.specs.Sums.{sum_to}
use Rattle.lot_sizing.specs.Problem.{EachItem, IsPlain, Problem, Resource, capacity, demand, entry, item_at, no_resource, resource_count, setup_time, unit_time}
use Rattle.lot_sizing.specs.Plan.{Each, EachCell, IsBalanced, IsWithinCapacity, Plan, Table, backlog_after, stock_after, used_up}
use Rattle.lot_sizing.proofs.Lots.{arriving_now, no_bound}
use Rattle.lot_sizing.proofs.Sums.{sum_to-bound, sum_to-same, sum_to_at}
use Rattle.own_plan.specs.OwnPeriod.{HasOwnPeriod, IsOwnLot, one_if_some}
use Rattle.report.specs.Draws.{is_first, most_demand}
use Rattle.report.specs.Generated.{has_next}
use Rattle.report.proofs.GeneratedBill.{either, into_previous, one_if, one_if_most, zero_times}
use Rattle.report.proofs.GeneratedPlaces.{IsGenerated, demand_at, next_not_first, resource_total, sum_at, uses_at}

-- any plain problem whose stocks begin and may end with nothing

abbrev own_plan : Table → Plan
own_plan make = record { make = make; setup = λ i t. one_if_some (make i t); stock = λ i t. 0; backlog = λ i t. 0 }

-- what is asked for in a period is made in it
abbrev AreAsked : Problem → Table → Type 0
AreAsked m make = EachCell m (λ i t. make i t ≡ demand m i t + used_up m make i t)

record IsBare (m : Problem) : Type 0 where
  pub plain : IsPlain m
  pub opening : EachItem m (λ i. (item_at m i).opening ≡ 0)
  pub end_min : EachItem m (λ i. (item_at m i).end_min ≡ 0)

own_lot : (m : Problem) (make : Table) → IsBare m → AreAsked m make → EachCell m (IsOwnLot m make)
own_lot m make bare asked i t low high t_low t_high =
    let same : sum_to t (λ u. demand m i u + used_up m make i u) ≡ sum_to t (make i) = sum_to-same t (λ u. demand m i u + used_up m make i u) (make i) (λ u u_low u_high. sym (asked i u low high u_low (omega (arith, u_high, t_high)))) in
    let split = sum_to_at t (make i) t_low in
    let none : (if t == m.periods then (item_at m i).end_min else 0) ≡ 0 = ap (λ n. if t == m.periods then n else 0) (bare.end_min i low high) ∙ either (t == m.periods) 0 in
    omega (arith, same, split, none, bare.opening i low high)

no_stock : (m : Problem) (make : Table) (i : ℕ) → (item_at m i).opening ≡ 0 → (t : ℕ) → stock_after m (own_plan make) i t ≡ 0
no_stock m make i none zero = none
no_stock m make i none (suc t) = refl

no_owed : (make : Table) (i t : ℕ) → backlog_after (own_plan make) i t ≡ 0
no_owed make i zero = refl
no_owed make i (suc t) = refl

balanced : (m : Problem) (make : Table) → IsBare m → AreAsked m make → EachCell m (IsBalanced m (own_plan make))
balanced m make bare asked i t low high t_low t_high =
    omega (
      arith,
      no_stock m make i (bare.opening i low high) (t - 1),
      no_owed make i (t - 1),
      arriving_now m make i t (bare.plain i low high).lead t_low,
      asked i t low high t_low t_high,
    )

setup_most : (n : ℕ) → one_if_some n ≤ 1
setup_most n = most (n == 0)
  where
    most : (b : Bool) → (if b then 0 else 1) ≤ 1
    most false = omega arith
    most true = omega arith

setup_some : (n : ℕ) → 0 < n → one_if_some n ≡ 1
setup_some n h = grind (arith, h)

no_lot : (least n setup : ℕ) → least ≡ 0 → least * setup ≤ n
no_lot least n setup h = omega (arith, ap (λ l. l * setup) h)

has_own : (m : Problem) (make : Table) → IsBare m → AreAsked m make → Each (resource_count m) m.periods (IsWithinCapacity m (own_plan make)) → HasOwnPeriod m
has_own m make bare asked room =
    let stock = balanced m make bare asked in (
      own_plan make,
      record {
        plain = bare.plain;
        make = own_lot m make bare asked;
        setup = λ i t low high t_low t_high. refl;
        backlog = λ i t low high t_low t_high. refl;
        stock = stock;
      },
      record {
        balance = stock;
        setup = λ i t low high t_low t_high. setup_most (make i t);
        made = λ i t low high t_low t_high. setup_some (make i t);
        capacity = room;
        end_stock = λ i low high. (omega (arith, bare.end_min i low high), omega arith);
        backlog = λ i t low high t_low t_high. (λ none. refl, λ last. refl);
        lots = λ i t low high t_low t_high. (no_lot (item_at m i).min_lot (make i t) (one_if_some (make i t)) (bare.plain i low high).min_lot, no_bound (item_at m i).max_lot (λ most. make i t ≤ most) (bare.plain i low high).max_lot);
        horizon = λ i t low high t_low t_high late. absurd (omega (arith, late, t_high, (bare.plain i low high).lead));
      },
    )

-- a generated problem

abbrev made : Bool → ℕ → Problem → ℕ → ℕ → ℕ
made coupled items p zero t = 0
made coupled items p (suc i) t = demand p (suc i) t + one_if (has_next coupled items i) * made coupled items p i t

bare_at : (coupled : Bool) (items periods : ℕ) (p : Problem) → IsGenerated coupled items periods p → IsBare p
bare_at coupled items periods p g = record {
  plain = λ i low high. let (d, is, e) = g.each i low (omega (arith, high, g.count)) in record { lead = ap (λ a. a.lead) e; min_lot = ap (λ a. a.min_lot) e; max_lot = none_of (item_at p i).max_lot (ap (λ a. a.max_lot) e) };
  opening = λ i low high. let (d, is, e) = g.each i low (omega (arith, high, g.count)) in ap (λ a. a.opening) e;
  end_min = λ i low high. let (d, is, e) = g.each i low (omega (arith, high, g.count)) in ap (λ a. a.end_min) e;
}
  where
    none_of : (o : Option ℕ) → o ≡ None → IsNone o
    none_of None h = refl
    none_of (Some n) h = absurd (cc h)

asked_at : (coupled : Bool) (items periods : ℕ) (p : Problem) → IsGenerated coupled items periods p → AreAsked p (made coupled items p)
asked_at coupled items periods p g zero t low high t_low t_high = absurd (omega (arith, low))
asked_at coupled items periods p g (suc i) t low high t_low t_high =
    let used : used_up p (made coupled items p) (suc i) t ≡ into_previous coupled items (λ j. made coupled items p j t) (suc i) = sum_at coupled items periods p g (λ j. made coupled items p j t) (suc i) (omega (arith, high, g.count)) in
    let e : suc i - 1 ≡ i = omega arith in
    let before : into_previous coupled items (λ j. made coupled items p j t) (suc i) ≡ one_if (has_next coupled items i) * made coupled items p i t = ap (λ k. one_if (has_next coupled items k) * made coupled items p k t) e in
    omega (arith, used, before)

-- quantities of a group of three

first_most : (i : ℕ) → is_first i ≡ true → most_demand true i ≡ 49
first_most i h = ap (λ b. if b then 49 else 9) h

later_most : (i : ℕ) → is_first i ≡ false → most_demand true i ≡ 9
later_most i h = ap (λ b. if b then 49 else 9) h

none_into_first : (items i : ℕ) → is_first (suc i) ≡ true → has_next true items i ≡ false
none_into_first items i first =
    ⊎_elim
    (λ next. let e : i + 1 ≡ suc i = omega arith in absurd (cc (sym first ∙ ap is_first (sym e) ∙ next_not_first true items i next)))
    (λ none. none)
    (cases_Bool (has_next true items i))

first_made : (items periods : ℕ) (p : Problem) → IsGenerated true items periods p → (i t : ℕ) → suc i ≤ items → 1 ≤ t → t ≤ periods → is_first (suc i) ≡ true → made true items p (suc i) t ≤ 49
first_made items periods p g i t high t_low t_high first =
    let none : one_if (has_next true items i) * made true items p i t ≡ 0 = ap (λ b. one_if b * made true items p i t) (none_into_first items i first) ∙ zero_times (made true items p i t) in
    omega (arith, none, demand_at true items periods p g (suc i) (omega arith) high t t_low t_high, first_most (suc i) first)

later_made : (items periods : ℕ) (p : Problem) → IsGenerated true items periods p → (i t : ℕ) → suc i ≤ items → 1 ≤ t → t ≤ periods → is_first (suc i) ≡ false → made true items p (suc i) t ≤ 9 + made true items p i t
later_made items periods p g i t high t_low t_high later =
    omega (arith, one_if_most (has_next true items i) (made true items p i t), demand_at true items periods p g (suc i) (omega arith) high t t_low t_high, later_most (suc i) later)

is_one : (n : ℕ) → (n == 1) ≡ true → n ≡ 1
is_one n h = grind (arith, h)

is_not_one : (n : ℕ) → (n == 1) ≡ false → n ≡ 1 → ⊥
is_not_one n h e = grind (arith, h, e)

one_is : (n : ℕ) → n ≡ 1 → (n == 1) ≡ true
one_is n h = grind (arith, h)

-- of three items on end one is the first of its group
third_is : (i : ℕ) → is_first (suc (suc i)) ≡ false → is_first (suc i) ≡ false → is_first i ≡ true
third_is i h k =
    let not_last = is_not_one (suc (suc i) % 3) h in
    let not_middle = is_not_one (suc i % 3) k in
    one_is (i % 3) (omega (arith, not_last, not_middle))

made_most : (items periods : ℕ) (p : Problem) → IsGenerated true items periods p → (i t : ℕ) → 1 ≤ i → i ≤ items → 1 ≤ t → t ≤ periods → made true items p i t ≤ 67
made_most items periods p g zero t low high t_low t_high = absurd (omega (arith, low))
made_most items periods p g (suc zero) t low high t_low t_high = omega (arith, first_made items periods p g 0 t high t_low t_high refl)
made_most items periods p g (suc (suc zero)) t low high t_low t_high =
    omega (arith, first_made items periods p g 0 t (omega (arith, high)) t_low t_high refl, later_made items periods p g 1 t high t_low t_high refl)
made_most items periods p g (suc (suc (suc i))) t low high t_low t_high =
    ⊎_elim
    (λ first. omega (arith, first_made items periods p g (suc (suc i)) t high t_low t_high first))
    (λ last. let by_last = later_made items periods p g (suc (suc i)) t high t_low t_high last in
    ⊎_elim
    (λ second. omega (arith, by_last, first_made items periods p g (suc i) t (omega (arith, high)) t_low t_high second))
    (λ middle. omega (arith, by_last, later_made items periods p g (suc i) t (omega (arith, high)) t_low t_high middle, first_made items periods p g i t (omega (arith, high)) t_low t_high (third_is (suc i) last middle)))
    (cases_Bool (is_first (suc (suc i)))))
    (cases_Bool (is_first (suc (suc (suc i)))))

-- the time of the resource

unit_at : (items periods : ℕ) (p : Problem) → IsGenerated true items periods p → (i : ℕ) → 1 ≤ i → i ≤ items → unit_time p i 1 ≡ 1
unit_at items periods p g i low high = ap (λ (uses : List Usage). sum_by (λ usage. if usage.resource == 1 then usage.unit else 0) uses) (uses_at true items periods p g i low high)

setup_at : (items periods : ℕ) (p : Problem) → IsGenerated true items periods p → (i : ℕ) → 1 ≤ i → i ≤ items → setup_time p i 1 ≡ 5
setup_at items periods p g i low high = ap (λ (uses : List Usage). sum_by (λ usage. if usage.resource == 1 then usage.setup else 0) uses) (uses_at true items periods p g i low high)

capacity_at : (items periods : ℕ) (p : Problem) → IsGenerated true items periods p → (t : ℕ) → 1 ≤ t → t ≤ periods → capacity p 1 t ≡ 80 * items
capacity_at items periods p g t t_low t_high = ap (λ (rs : List Resource). entry (slice_index_or rs 0 no_resource).capacity t) g.resource_list ∙ get_or-replicate periods (t - 1) (80 * items) 0 (omega (arith, t_low, t_high))

item_time : (items periods : ℕ) (p : Problem) → IsGenerated true items periods p → (i t : ℕ) → 1 ≤ i → i ≤ items → 1 ≤ t → t ≤ periods → unit_time p i 1 * made true items p i t + setup_time p i 1 * one_if_some (made true items p i t) ≤ 80
item_time items periods p g i t low high t_low t_high =
    omega (
      arith,
      ap (λ n. n * made true items p i t) (unit_at items periods p g i low high),
      ap (λ n. n * one_if_some (made true items p i t)) (setup_at items periods p g i low high),
      made_most items periods p g i t low high t_low t_high,
      setup_most (made true items p i t),
    )

within_first : (items periods : ℕ) (p : Problem) → IsGenerated true items periods p → (t : ℕ) → 1 ≤ t → t ≤ periods → IsWithinCapacity p (own_plan (made true items p)) 1 t
within_first items periods p g t t_low t_high =
    let all = sum_to-bound items 80 (λ i. unit_time p i 1 * made true items p i t + setup_time p i 1 * one_if_some (made true items p i t)) (λ i low high. item_time items periods p g i t low high t_low t_high) in
    let count = ap (λ n. sum_to n (λ i. unit_time p i 1 * made true items p i t + setup_time p i 1 * one_if_some (made true items p i t))) g.count in
    omega (arith, all, count, capacity_at items periods p g t t_low t_high)

within : (coupled : Bool) (items periods : ℕ) (p : Problem) → IsGenerated coupled items periods p → Each (resource_count p) p.periods (IsWithinCapacity p (own_plan (made coupled items p)))
within false items periods p g k t low high t_low t_high = absurd (omega (arith, low, high, resource_total false items periods p g))
within true items periods p g k t low high t_low t_high =
    let e : k ≡ 1 = omega (arith, low, high, resource_total true items periods p g) in
    rw e (within_first items periods p g t t_low (omega (arith, t_high, g.period_count)))

pub own_period : (coupled : Bool) (items periods : ℕ) (p : Problem) → IsGenerated coupled items periods p → HasOwnPeriod p
own_period coupled items periods p g = has_own p (made coupled items p) (bare_at coupled items periods p g) (asked_at coupled items periods p g) (within coupled items periods p g)
