-- A generated problem, item by item.
use Rattle.std.proofs.Common.{◌≡◌, ◌≤◌, ◌+◌, ◌-◌, ◌*◌, ◌∙◌, ℕ, zero, suc, List, [], ◌∷◌, length, map, replicate, slice_index_or, Option, Some, None, Bool, true, false, refl, ap, arith}
use Rattle.std.specs.Prelude.{IfSome, option_map, if◌then◌else◌, ◌==◌, ◌&&◌, not, nat_le}
use Rattle.std.specs.List.{All, sum_by}
use Rattle.std.proofs.lemmas.List.{get_or-map, get_or-replicate, length-map, length-replicate}
use Rattle.std.proofs.lemmas.List.Elements.{All-nil}
use Rattle.std.proofs.lemmas.List.Sums.{sum_by-cons}
use Rattle.lot_sizing.specs.declared.Need.{Need}
use Rattle.lot_sizing.specs.declared.Usage.{Usage}
use Rattle.lot_sizing.specs.declared.limits.TheConstants.{MAX_AMOUNT}
use Rattle.lot_sizing.specs.Sums.{sum_to}
use Rattle.lot_sizing.specs.Problem.{AreNeeds, AreUses, IsItem, IsResource, IsSeries, Problem, demand, entry, item_at, item_count, no_item, no_resource, per_unit, resource_count}
use Rattle.lot_sizing.proofs.Sums.{sum_to-bound, sum_to-same}
use Rattle.lot_model.specs.Valid.{HasFewLines}
use Rattle.report.specs.Draws.{Drawn, is_first, most_demand}
use Rattle.report.specs.Generated.{capacities, has_next, item_name, item_of, need_if, needs_of, problem_with, resource_of, uses_of}
use Rattle.report.proofs.GeneratedBill.{into_previous, next_units, sum_previous, units_in_needs}
use Rattle.report.proofs.GeneratedDrawn.{AreDrawn, IsDrawn, drawn_at, no_drawn}
use Rattle.report.proofs.GeneratedNames.{both_are, item_named, resource_named}

pub record IsGenerated (coupled : Bool) (items periods : ℕ) (p : Problem) : Type 0 where
  pub period_count : p.periods ≡ periods
  pub resource_list : p.resources ≡ map (resource_of periods) (capacities coupled items)
  pub count : item_count p ≡ items
  pub lines : HasFewLines p
  pub each : (i : ℕ) → 1 ≤ i → i ≤ items → (d : Drawn) × IsDrawn coupled periods i d × (item_at p i ≡ item_of coupled items periods d)

one_line : (coupled : Bool) (items i : ℕ) → length (needs_of coupled items i) ≤ 1
one_line coupled items i = one (has_next coupled items i) i
  where
    one : (b : Bool) (i : ℕ) → length (need_if b (i + 1)) ≤ 1
    one false i = omega arith
    one true i = omega arith

few_in : {A B : Type 0} (f : B → A) (size : A → ℕ) (xs : List B) → ((x : B) → size (f x) ≤ 1) → sum_by size (map f xs) ≤ length xs
few_in f size [] h = omega arith
few_in f size (x ∷ xs) h = omega (arith, sum_by-cons size (f x) (map f xs), few_in f size xs h, h x)

pub is_generated : (coupled : Bool) (items periods : ℕ) (ds : List Drawn) → items ≤ 40 → AreDrawn coupled periods items ds → IsGenerated coupled items periods (problem_with coupled items periods ds)
is_generated coupled items periods ds few are = record {
  period_count = refl;
  resource_list = refl;
  count = length-map ds (item_of coupled items periods) ∙ are.size;
  lines = omega (arith, few, are.size, few_in (item_of coupled items periods) (λ a. length a.needs) ds (λ d. one_line coupled items d.number));
  each = λ i low high. (drawn_at ds i, are.each i low high, get_or-map (item_of coupled items periods) ds (i - 1) no_drawn no_item (omega (arith, low, high, are.size)));
}

-- what an item has

pub needs_at : (coupled : Bool) (items periods : ℕ) (p : Problem) → IsGenerated coupled items periods p → (i : ℕ) → 1 ≤ i → i ≤ items → (item_at p i).needs ≡ needs_of coupled items i
needs_at coupled items periods p g i low high = let (d, is, e) = g.each i low high in ap (λ a. a.needs) e ∙ ap (needs_of coupled items) is.number

pub uses_at : (coupled : Bool) (items periods : ℕ) (p : Problem) → IsGenerated coupled items periods p → (i : ℕ) → 1 ≤ i → i ≤ items → (item_at p i).uses ≡ uses_of coupled
uses_at coupled items periods p g i low high = let (d, is, e) = g.each i low high in ap (λ a. a.uses) e

pub name_at : (coupled : Bool) (items periods : ℕ) (p : Problem) → IsGenerated coupled items periods p → (i : ℕ) → 1 ≤ i → i ≤ items → (item_at p i).name ≡ item_name i
name_at coupled items periods p g i low high = let (d, is, e) = g.each i low high in ap (λ a. a.name) e ∙ ap item_name is.number

pub demand_at : (coupled : Bool) (items periods : ℕ) (p : Problem) → IsGenerated coupled items periods p → (i : ℕ) → 1 ≤ i → i ≤ items → (t : ℕ) → 1 ≤ t → t ≤ periods → demand p i t ≤ most_demand coupled i
demand_at coupled items periods p g i low high t t_low t_high =
    let (d, is, e) = g.each i low high in
    let small = is.demand.small (t - 1) 0 (omega (arith, t_low, t_high, is.demand.size)) in
    omega (arith, small, ap (λ a. entry a.demand t) e)

most_small : (coupled : Bool) (i : ℕ) → most_demand coupled i ≤ 99
most_small false i = omega arith
most_small true i = most (is_first i)
  where
    most : (b : Bool) → (if b then 49 else 9) ≤ 99
    most false = omega arith
    most true = omega arith

pub demands_small : (coupled : Bool) (items periods : ℕ) (p : Problem) → IsGenerated coupled items periods p → periods ≤ 60 → (i : ℕ) → 1 ≤ i → i ≤ items → sum_to p.periods (demand p i) ≤ 5940
demands_small coupled items periods p g few i low high =
    let all = sum_to-bound periods 99 (demand p i) (λ t t_low t_high. omega (arith, demand_at coupled items periods p g i low high t t_low t_high, most_small coupled i)) in
    omega (arith, all, few, ap (λ n. sum_to n (demand p i)) g.period_count)

pub units_at : (coupled : Bool) (items periods : ℕ) (p : Problem) → IsGenerated coupled items periods p → (i j : ℕ) → 1 ≤ j → j ≤ items → per_unit p i j ≡ next_units coupled items j i
units_at coupled items periods p g i j low high =
    ap (λ (needs : List Need). sum_by (λ need. if need.item == i then need.quantity else 0) needs) (needs_at coupled items periods p g j low high) ∙ units_in_needs coupled items i j

pub sum_at : (coupled : Bool) (items periods : ℕ) (p : Problem) → IsGenerated coupled items periods p → (f : ℕ → ℕ) (i : ℕ) → i ≤ items → sum_to (item_count p) (λ j. per_unit p i j * f j) ≡ into_previous coupled items f i
sum_at coupled items periods p g f i high =
    ap (λ n. sum_to n (λ j. per_unit p i j * f j)) g.count
    ∙ sum_to-same items (λ j. per_unit p i j * f j) (λ j. next_units coupled items j i * f j) (λ j j_low j_high. ap (λ n. n * f j) (units_at coupled items periods p g i j j_low j_high))
    ∙ sum_previous coupled items i f high

-- an item is within the limits

pub next_there : (coupled : Bool) (items i : ℕ) → has_next coupled items i ≡ true → i + 1 ≤ items
next_there coupled items i h =
    let both = both_are coupled (nat_le (i + 1) items && not (is_first (i + 1))) h in
    let there = both_are (nat_le (i + 1) items) (not (is_first (i + 1))) both.1 in
    of_true (i + 1) items there.0
  where
    of_true : (a b : ℕ) → nat_le a b ≡ true → a ≤ b
    of_true a b e = grind (arith, e)

pub next_not_first : (coupled : Bool) (items i : ℕ) → has_next coupled items i ≡ true → is_first (i + 1) ≡ false
next_not_first coupled items i h =
    let both = both_are coupled (nat_le (i + 1) items && not (is_first (i + 1))) h in
    let there = both_are (nat_le (i + 1) items) (not (is_first (i + 1))) both.1 in
    not_true (is_first (i + 1)) there.1
  where
    not_true : (b : Bool) → not b ≡ true → b ≡ false
    not_true false e = refl
    not_true true e = absurd (cc e)

all_one : {A : Type 0} (P : A → Type 0) (x : A) → P x → All P (x ∷ [])
all_one P x h zero d less = h
all_one P x h (suc k) d less = absurd (omega (arith, less))

needs_if : (b : Bool) (items i : ℕ) → (b ≡ true → i + 1 ≤ items) → AreNeeds items (need_if b (i + 1))
needs_if false items i h = record { count = omega arith; items_exist = All-nil (λ need. (1 ≤ need.item) × (need.item ≤ items)); quantities = All-nil (λ need. (1 ≤ need.quantity) × (need.quantity ≤ 1000000)) }
needs_if true items i h = record {
  count = omega arith;
  items_exist = all_one (λ (need : Need). (1 ≤ need.item) × (need.item ≤ items)) (record { item = i + 1; quantity = 1 }) (omega arith, h refl);
  quantities = all_one (λ (need : Need). (1 ≤ need.quantity) × (need.quantity ≤ 1000000)) (record { item = i + 1; quantity = 1 }) (omega arith, omega arith);
}

uses_good : (coupled : Bool) (items : ℕ) → AreUses (length (capacities coupled items)) (uses_of coupled)
uses_good false items = record { count = omega arith; resources_exist = All-nil (λ usage. (1 ≤ usage.resource) × (usage.resource ≤ 0)); times = All-nil (λ usage. (usage.unit ≤ MAX_AMOUNT) × (usage.setup ≤ MAX_AMOUNT)) }
uses_good true items = record {
  count = omega arith;
  resources_exist = all_one (λ (usage : Usage). (1 ≤ usage.resource) × (usage.resource ≤ 1)) (record { resource = 1; unit = 1; setup = 5 }) (omega arith, omega arith);
  times = all_one (λ (usage : Usage). (usage.unit ≤ MAX_AMOUNT) × (usage.setup ≤ MAX_AMOUNT)) (record { resource = 1; unit = 1; setup = 5 }) (omega arith, omega arith);
}

series_up : (t a : ℕ) (xs : List ℕ) → a ≤ MAX_AMOUNT → IsSeries t a xs → IsSeries t MAX_AMOUNT xs
series_up t a xs h s = record { size = s.size; small = λ k d less. omega (arith, h, s.small k d less) }

series_same : (t x : ℕ) → x ≤ MAX_AMOUNT → IsSeries t MAX_AMOUNT (replicate t x)
series_same t x h = record { size = length-replicate t x; small = λ k d less. omega (arith, h, get_or-replicate t k x d (omega (arith, less, length-replicate t x))) }

back_series : (t : ℕ) (o : Option ℕ) → IfSome o (λ b. b ≤ 6) → IfSome (option_map (replicate t) o) (IsSeries t MAX_AMOUNT)
back_series t None h = tt
back_series t (Some b) h = series_same t b (omega (arith, h))

pub item_good : (coupled : Bool) (items periods i : ℕ) (d : Drawn) → i ≤ 40 → IsDrawn coupled periods i d → IsItem items (length (capacities coupled items)) periods (item_of coupled items periods d)
item_good coupled items periods i d few is = record {
  name = item_named d.number (omega (arith, few, is.number));
  lists = record {
    demand = series_up periods (most_demand coupled i) d.demand (omega (arith, most_small coupled i)) is.demand;
    unit_cost = series_same periods 0 (omega arith);
    setup_cost = series_up periods 299 d.setup_cost (omega arith) is.setup_cost;
    hold_cost = series_same periods d.hold_cost (omega (arith, is.hold_cost));
    backlog_cost = back_series periods d.backlog_cost is.backlog_cost;
  };
  opening = omega arith;
  end_min = omega arith;
  end_max = omega arith;
  ends = omega arith;
  lead = omega arith;
  min_lot = omega arith;
  max_lot = tt;
  needs = needs_if (has_next coupled items d.number) items d.number (next_there coupled items d.number);
  uses = uses_good coupled items;
}

pub few_needs : (coupled : Bool) (items periods : ℕ) (p : Problem) → IsGenerated coupled items periods p → (i : ℕ) → 1 ≤ i → i ≤ items → length (item_at p i).needs ≤ 1
few_needs coupled items periods p g i low high = omega (arith, ap (λ (needs : List Need). length needs) (needs_at coupled items periods p g i low high), one_line coupled items i)

pub few_uses : (coupled : Bool) (items periods : ℕ) (p : Problem) → IsGenerated coupled items periods p → (i : ℕ) → 1 ≤ i → i ≤ items → length (item_at p i).uses ≤ 1
few_uses coupled items periods p g i low high = omega (arith, ap (λ (uses : List Usage). length uses) (uses_at coupled items periods p g i low high), one_use coupled)
  where
    one_use : (coupled : Bool) → length (uses_of coupled) ≤ 1
    one_use false = omega arith
    one_use true = omega arith

-- the resource is within the limits

pub resource_total : (coupled : Bool) (items periods : ℕ) (p : Problem) → IsGenerated coupled items periods p → resource_count p ≡ length (capacities coupled items)
resource_total coupled items periods p g = ap length g.resource_list ∙ length-map (capacities coupled items) (resource_of periods)

pub few_resources : (coupled : Bool) (items : ℕ) → length (capacities coupled items) ≤ 1
few_resources false items = omega arith
few_resources true items = omega arith

resource_good : (periods capacity : ℕ) → capacity ≤ MAX_AMOUNT → IsResource periods (resource_of periods capacity)
resource_good periods capacity h = record { name = resource_named; capacity = series_same periods capacity h }

pub each_resource : (coupled : Bool) (items periods k : ℕ) → items ≤ 40 → 1 ≤ k → k ≤ length (capacities coupled items) → IsResource periods (slice_index_or (map (resource_of periods) (capacities coupled items)) (k - 1) no_resource)
each_resource false items periods k few low high = absurd (omega (arith, low, high))
each_resource true items periods k few low high =
    let e : k - 1 ≡ 0 = omega (arith, high) in
    rw e (resource_good periods (80 * items) (omega (arith, few)))
