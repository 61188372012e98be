-- A number past the most that a draft has room for is refused as it would be.
use Rattle.std.proofs.Common.{◌≡◌, ◌<◌, ◌+◌, ◌∙◌, ⊎_elim, inl, inr, ℕ, suc, refl, sym, ap, subst, arith, List, [], ◌∷◌, length, map, Some, None}
use Rattle.std.specs.Prelude.{ℤ, pos, negsuc, int_le, nat_le, min, true, false, ◌&&◌, Result, Ok, Err}
use Rattle.std.specs.List.{fold, sum_by}
use Rattle.std.proofs.lemmas.List.{length-map}
use Rattle.std.proofs.lemmas.Bool.{cases_lt}
use Rattle.lot_sizing.specs.Problem.{Problem}
use Rattle.lot_sizing.specs.declared.limits.TheConstants.{MAX_AMOUNT, MAX_BILL_LINES, MAX_END_STOCK, MAX_ITEMS, MAX_PERIODS, MAX_RESOURCES}
use Rattle.lot_draft.specs.declared.fault.ModelFault.{ModelFault}
use Rattle.lot_draft.specs.declared.fault.ModelCode.TheVariants as code
use Rattle.lot_draft.specs.declared.fault.Place.{Place}
use Rattle.lot_draft.specs.declared.fault.Place.TheVariants as place
use Rattle.lot_draft.specs.declared.fault.Key.{Key}
use Rattle.lot_draft.specs.declared.fault.Key.TheVariants as key
use Rattle.lot_draft.specs.Raw.{RawItem, RawModel}
use Rattle.lot_draft.specs.Refusals.{Fault, capacity_fault, count_fault, entry_fault, first_in, is_from, item_lines_fault, item_lists_fault, item_lots_fault, item_name_fault, item_names, item_numbers_fault, item_repeat, item_stocks_fault, lines_fault, name_fault, need_fault, number_fault, numbers_fault, optional_number_fault, optional_series_fault, or_then, plain_fault, repeat_at, repeat_fault, resource_name_fault, resource_names, resource_repeat, series_fault, unless, use_fault}
use Rattle.lot_draft.proofs.Faults.{at_most, first_none, holds, rest_none, second_of}
use Rattle.lot_model.specs.Meaning.{Means}
use Rattle.replan.specs.Capped.{cap, capped, capped_item}

-- a number is within the limit where the capped one is
cap_within : (most : ℕ) (x : ℤ) → MAX_AMOUNT < most → is_from (pos 0) (pos MAX_AMOUNT) (cap most x) ≡ is_from (pos 0) (pos MAX_AMOUNT) x
cap_within most (negsuc n) more = refl
cap_within most (pos n) more =
    ⊎_elim
    (λ small. let e : min n most ≡ n = omega (arith, small) in ap (λ k. is_from (pos 0) (pos MAX_AMOUNT) (pos k)) e)
    (λ large.
    let a : nat_le (min n most) MAX_AMOUNT ≡ false = grind (arith, large, more) in
    let b : nat_le n MAX_AMOUNT ≡ false = grind (arith, large, more) in
    ap (λ c. int_le (pos 0) (pos (min n most)) && c) a ∙ (grind (arith) ∙ sym (ap (λ c. int_le (pos 0) (pos n) && c) b)))
    (cases_lt n most)

cap_same : (most : ℕ) (x : ℤ) → MAX_AMOUNT < most → is_from (pos 0) (pos MAX_AMOUNT) x ≡ true → cap most x ≡ x
cap_same most (negsuc n) more h = refl
cap_same most (pos n) more h =
    let small = at_most n MAX_AMOUNT (second_of (int_le (pos 0) (pos n)) (nat_le n MAX_AMOUNT) h) in
    let e : min n most ≡ n = omega (arith, small, more) in
    ap pos e

-- the faults of members that are changed without a change of their faults
first_same : {A B : Type 0} → (f : ℕ → A → Fault) (g : ℕ → B → Fault) (h : B → A) → ((n : ℕ) (x : B) → f n (h x) ≡ g n x) → (n : ℕ) (xs : List B) → first_in f n (map h xs) ≡ first_in g n xs
first_same f g h same n [] = refl
first_same f g h same n (x ∷ xs) = ap (λ y. or_then y (first_in f (suc n) (map h xs))) (same n x) ∙ ap (or_then (g n x)) (first_same f g h same (suc n) xs)

series_same : (most : ℕ) → MAX_AMOUNT < most → (periods : ℤ) (p : Place) (k : Key) (xs : List ℤ) → series_fault periods p k (map (cap most) xs) ≡ series_fault periods p k xs
series_same most more periods p k xs =
    ap (λ n. or_then (unless (int_le (pos n) periods && int_le periods (pos n)) code.WrongLength p (Some k) None) (first_in (entry_fault p k) 1 (map (cap most) xs))) (length-map xs (cap most))
    ∙ ap (or_then (unless (int_le (pos (length xs)) periods && int_le periods (pos (length xs))) code.WrongLength p (Some k) None))
    (first_same (entry_fault p k) (entry_fault p k) (cap most) (λ t x. ap (λ b. unless b code.OutOfRange p (Some k) (Some t)) (cap_within most x more)) 1 xs)

lists_same : (most : ℕ) → MAX_AMOUNT < most → (periods : ℤ) (i : ℕ) (a : RawItem) → item_lists_fault periods i (capped_item most a) ≡ item_lists_fault periods i a
lists_same most more periods i a =
    ap (λ f. or_then f
    (or_then (series_fault periods (place.Item i) key.UnitCost a.unit_cost)
    (or_then (series_fault periods (place.Item i) key.SetupCost a.setup_cost)
    (or_then (series_fault periods (place.Item i) key.HoldCost a.hold_cost)
    (optional_series_fault periods (place.Item i) key.BacklogCost a.backlog_cost))))) (series_same most more periods (place.Item i) key.Demand a.demand)

stocks_same : (most : ℕ) → MAX_AMOUNT < most → (i : ℕ) (a : RawItem) → item_stocks_fault i (capped_item most a) ≡ item_stocks_fault i a
stocks_same most more i a =
    ap (λ b. or_then (unless b code.OutOfRange (place.Item i) (Some key.Opening) None)
    (or_then (number_fault (pos 0) (pos MAX_AMOUNT) (place.Item i) key.EndMin a.end_min)
    (optional_number_fault (pos 0) (pos MAX_END_STOCK) (place.Item i) key.EndMax a.end_max))) (cap_within most a.opening more)

item_numbers_same : (most : ℕ) → MAX_AMOUNT < most → (periods : ℤ) (i : ℕ) (a : RawItem) → item_numbers_fault periods i (capped_item most a) ≡ item_numbers_fault periods i a
item_numbers_same most more periods i a =
    ap (λ f. or_then f (or_then (item_stocks_fault i (capped_item most a)) (item_lots_fault i a))) (lists_same most more periods i a)
    ∙ ap (λ f. or_then (item_lists_fault periods i a) (or_then f (item_lots_fault i a))) (stocks_same most more i a)

names_same : (most : ℕ) (xs : List RawItem) → item_names (map (capped_item most) xs) ≡ item_names xs
names_same most [] = refl
names_same most (x ∷ xs) = ap (λ ns. x.name ∷ ns) (names_same most xs)

needs_same : (most n : ℕ) (xs : List RawItem) → fold (λ (k : ℕ) (a : RawItem). k + length a.needs) n (map (capped_item most) xs) ≡ fold (λ (k : ℕ) (a : RawItem). k + length a.needs) n xs
needs_same most n [] = refl
needs_same most n (x ∷ xs) = needs_same most (n + length x.needs) xs

abbrev count_by : RawModel → ℕ → ℕ → Fault
count_by m items lines =
    or_then (unless (is_from (pos 1) (pos MAX_PERIODS) m.periods) code.OutOfRange place.Root (Some key.Periods) None)
    (or_then (unless (nat_le (length m.resources) MAX_RESOURCES) code.OutOfRange place.Root (Some key.Resource) None)
    (or_then (unless (nat_le 1 items && nat_le items MAX_ITEMS) code.OutOfRange place.Root (Some key.Item) None)
    (unless (nat_le lines MAX_BILL_LINES) code.OutOfRange place.Root (Some key.Needs) None)))

counts_same : (most : ℕ) (m : RawModel) → count_fault (capped most m) ≡ count_fault m
counts_same most m =
    let before = map (capped_item most) m.items in
    ap (λ n. count_by m n (sum_by (λ (a : RawItem). length a.needs) before)) (length-map m.items (capped_item most))
    ∙ ap (count_by m (length m.items)) (needs_same most 0 m.items)

all_names_same : (most : ℕ) (m : RawModel) → name_fault (capped most m) ≡ name_fault m
all_names_same most m = ap (or_then (first_in resource_name_fault 1 m.resources)) (first_same item_name_fault item_name_fault (capped_item most) (λ n x. refl) 1 m.items)

repeats_same : (most : ℕ) (m : RawModel) → repeat_fault (capped most m) ≡ repeat_fault m
repeats_same most m =
    ap (or_then (first_in (resource_repeat m.resources) 1 m.resources))
    (first_same (item_repeat (map (capped_item most) m.items)) (item_repeat m.items) (capped_item most) (λ n x. ap (λ names. repeat_at place.Item names n x.name) (names_same most m.items)) 1 m.items)

all_numbers_same : (most : ℕ) → MAX_AMOUNT < most → (m : RawModel) → numbers_fault (capped most m) ≡ numbers_fault m
all_numbers_same most more m =
    ap (or_then (first_in (capacity_fault m.periods) 1 m.resources))
    (first_same (item_numbers_fault m.periods) (item_numbers_fault m.periods) (capped_item most) (λ n x. item_numbers_same most more m.periods n x) 1 m.items)

lines_same : (most : ℕ) (m : RawModel) → lines_fault (capped most m) ≡ lines_fault m
lines_same most m =
    first_same (item_lines_fault (capped most m)) (item_lines_fault m) (capped_item most) (λ n x.
    ap (λ names. or_then (first_in (need_fault names n x.needs) 1 x.needs) (first_in (use_fault (resource_names m.resources) n x.uses) 1 x.uses)) (names_same most m.items)) 1 m.items

abbrev five : Fault → Fault → Fault → Fault → Fault → Fault
five a b c d e = or_then a (or_then b (or_then c (or_then d e)))

plain_same : (most : ℕ) → MAX_AMOUNT < most → (m : RawModel) → plain_fault (capped most m) ≡ plain_fault m
plain_same most more m =
    let c = capped most m in
    ap (λ f. five f (name_fault c) (repeat_fault c) (numbers_fault c) (lines_fault c)) (counts_same most m)
    ∙ (ap (λ f. five (count_fault m) f (repeat_fault c) (numbers_fault c) (lines_fault c)) (all_names_same most m)
    ∙ (ap (λ f. five (count_fault m) (name_fault m) f (numbers_fault c) (lines_fault c)) (repeats_same most m)
    ∙ (ap (λ f. five (count_fault m) (name_fault m) (repeat_fault m) f (lines_fault c)) (all_numbers_same most more m)
    ∙ ap (five (count_fault m) (name_fault m) (repeat_fault m) (numbers_fault m)) (lines_same most m))))

-- without a fault nothing is capped

demand_kept : (most : ℕ) → MAX_AMOUNT < most → (p : Place) (k : Key) (t : ℕ) (xs : List ℤ) → first_in (entry_fault p k) t xs ≡ None → map (cap most) xs ≡ xs
demand_kept most more p k t [] none = refl
demand_kept most more p k t (x ∷ xs) none =
    let here = cap_same most x more (holds (is_from (pos 0) (pos MAX_AMOUNT) x) code.OutOfRange p (Some k) (Some t) (first_none (entry_fault p k t x) (first_in (entry_fault p k) (suc t) xs) none)) in
    ap (λ y. y ∷ map (cap most) xs) here ∙ ap (λ ys. x ∷ ys) (demand_kept most more p k (suc t) xs (rest_none (entry_fault p k t x) (first_in (entry_fault p k) (suc t) xs) none))

abbrev item_with : RawItem → List ℤ → ℤ → RawItem
item_with a demand opening = record { name = a.name; demand = demand; unit_cost = a.unit_cost; setup_cost = a.setup_cost; hold_cost = a.hold_cost; backlog_cost = a.backlog_cost; opening = opening; end_min = a.end_min; end_max = a.end_max; lead = a.lead; min_lot = a.min_lot; max_lot = a.max_lot; needs = a.needs; uses = a.uses }

item_kept : (most : ℕ) → MAX_AMOUNT < most → (periods : ℤ) (i : ℕ) (a : RawItem) → item_numbers_fault periods i a ≡ None → capped_item most a ≡ a
item_kept most more periods i a none =
    let lists = first_none (item_lists_fault periods i a) (or_then (item_stocks_fault i a) (item_lots_fault i a)) none in
    let stocks = first_none (item_stocks_fault i a) (item_lots_fault i a) (rest_none (item_lists_fault periods i a) (or_then (item_stocks_fault i a) (item_lots_fault i a)) none) in
    let demand = demand_kept most more (place.Item i) key.Demand 1 a.demand (rest_none _ _ (first_none (series_fault periods (place.Item i) key.Demand a.demand) _ lists)) in
    let opening = cap_same most a.opening more (holds (is_from (pos 0) (pos MAX_AMOUNT) a.opening) code.OutOfRange (place.Item i) (Some key.Opening) None (first_none _ _ stocks)) in
    ap (λ (xs : List ℤ). item_with a xs (cap most a.opening)) demand ∙ ap (item_with a a.demand) opening

items_kept : (most : ℕ) → MAX_AMOUNT < most → (periods : ℤ) (i : ℕ) (xs : List RawItem) → first_in (item_numbers_fault periods) i xs ≡ None → map (capped_item most) xs ≡ xs
items_kept most more periods i [] none = refl
items_kept most more periods i (x ∷ xs) none =
    ap (λ y. y ∷ map (capped_item most) xs) (item_kept most more periods i x (first_none (item_numbers_fault periods i x) (first_in (item_numbers_fault periods) (suc i) xs) none))
    ∙ ap (λ ys. x ∷ ys) (items_kept most more periods (suc i) xs (rest_none (item_numbers_fault periods i x) (first_in (item_numbers_fault periods) (suc i) xs) none))

abbrev model_with : RawModel → List RawItem → RawModel
model_with m items = record { periods = m.periods; resources = m.resources; items = items }

kept : (most : ℕ) → MAX_AMOUNT < most → (m : RawModel) → plain_fault m ≡ None → capped most m ≡ m
kept most more m none =
    let numbers = first_none (numbers_fault m) (lines_fault m) (rest_none (repeat_fault m) _ (rest_none (name_fault m) _ (rest_none (count_fault m) _ none))) in
    ap (model_with m) (items_kept most more m.periods 1 m.items (rest_none (first_in (capacity_fault m.periods) 1 m.resources) _ numbers))

pub means_there : (most : ℕ) (m : RawModel) (r : Result Problem ModelFault) → MAX_AMOUNT < most → Means m r → Means (capped most m) r
means_there most m (Ok p) more h = subst (λ c. Means c (Ok p)) (sym (kept most more m h.1.plain)) h
means_there most m (Err f) more h =
    ⊎_elim
    (λ first. inl (plain_same most more m ∙ first))
    (λ later. subst (λ c. Means c (Err f)) (sym (kept most more m later.0)) (inr later))
    h

pub means_back : (most : ℕ) (m : RawModel) (r : Result Problem ModelFault) → MAX_AMOUNT < most → Means (capped most m) r → Means m r
means_back most m (Ok p) more h = subst (λ c. Means c (Ok p)) (kept most more m (sym (plain_same most more m) ∙ h.1.plain)) h
means_back most m (Err f) more h =
    ⊎_elim
    (λ first. inl (sym (plain_same most more m) ∙ first))
    (λ later. subst (λ c. Means c (Err f)) (kept most more m (sym (plain_same most more m) ∙ later.0)) (inr later))
    h
