-- A valid problem, written out as a model, breaks no rule and is read as itself.
use Rattle.std.proofs.Common.{◌≡◌, ◌≢◌, ◌≤◌, ◌<◌, ◌+◌, ◌-◌, ◌*◌, ◌∙◌, ◌⊎◌, ⊎_elim, ℕ, zero, suc, refl, sym, ap, subst, arith, List, [], ◌∷◌, length, map, take, slice_index_or, Option, Some, None}
use Rattle.std.specs.Prelude.{ℤ, pos, int_le, nat_le, Bool, true, false, not, ◌&&◌, ◌||◌, ◌==◌, IfSome, IsNone, IsTrue, is_some, option_map, unwrap_or, if◌then◌else◌}
use Rattle.std.specs.List.{All, list_any, sum_by}
use Rattle.std.specs.Str.{bytes_eq}
use Rattle.std.proofs.lemmas.Bool.{cases_Bool, cases_lt, cases_eq}
use Rattle.std.proofs.lemmas.Slice.Eq.{bytes_eq-Decides}
use Rattle.std.proofs.lemmas.List.{get_or-take, get_or_default, length-map, length-take-le}
use Rattle.std.proofs.lemmas.List.Folds.{Any-from_list_any}
use Rattle.std.proofs.lemmas.List.Sums.{get_or-le-sum_by, sum_by-cons}
use Rattle.std.proofs.Math.ListN.{get_or-map}
use Rattle.lot_sizing.specs.Problem.{AllAtMost, HasLists, Item, IsItem, IsName, IsResource, IsSeries, IsWithinLimits, Problem, Resource, is_name, item_at, item_count, no_item, no_resource, per_unit, resource_at, resource_count}
use Rattle.lot_sizing.specs.declared.Need.{Need}
use Rattle.lot_sizing.specs.declared.Usage.{Usage}
use Rattle.lot_sizing.specs.declared.limits.TheConstants.{MAX_AMOUNT, MAX_BILL_LINES, MAX_END_STOCK, MAX_ITEMS, MAX_LEAD, MAX_PERIODS, MAX_QUANTITY, MAX_RESOURCES}
use Rattle.lot_draft.specs.declared.fault.ModelFault.{ModelFault}
use Rattle.lot_draft.specs.declared.fault.ModelCode.{ModelCode}
use Rattle.lot_draft.specs.declared.fault.Place.{Place}
use Rattle.lot_draft.specs.declared.fault.Place.TheVariants as place
use Rattle.lot_draft.specs.declared.fault.Key.{Key}
use Rattle.lot_draft.specs.Raw.{RawItem, RawModel, RawNeed, RawResource, RawUse}
use Rattle.lot_draft.specs.Meaning.{item_of, natural, naturals, need_of, number_named_from, number_named, problem_of, resource_of, use_of}
use Rattle.lot_draft.specs.Refusals.{Fault, backlog_fault, capacity_fault, count_fault, ends_fault, entry_fault, first_in, is_among, is_component, is_from, is_ordered, item_lines_fault, item_lists_fault, item_lots_fault, item_name_fault, item_names, item_numbers_fault, item_repeat, item_stocks_fault, later_fault, lines_fault, lots_fault, name_fault, need_fault, need_names, number_fault, numbers_fault, optional_number_fault, optional_series_fault, or_then, plain_fault, repeat_at, repeat_fault, resource_name_fault, resource_names, resource_repeat, series_fault, unless, use_fault, use_names}
use Rattle.lot_model.specs.Valid.{HaveNoBacklogs, HaveOwnNames, HaveOwnResourceNames, IsValid, NameOnce, UseOnce, no_need, no_usage}
use Rattle.lot_model.specs.Drafted.{item_written, need_written, resource_written, use_written, wholes, written_out}

-- lists that are read as they were

naturals_whole : (xs : List ℕ) → naturals (wholes xs) ≡ xs
naturals_whole [] = refl
naturals_whole (x ∷ xs) = ap (λ ys. x ∷ ys) (naturals_whole xs)

-- a map of a map that changes no element
unchanged : {A B : Type 0} (f : B → A) (g : A → B) (xs : List A) (d : A) → ((k : ℕ) → k < length xs → f (g (slice_index_or xs k d)) ≡ slice_index_or xs k d) → map f (map g xs) ≡ xs
unchanged f g [] d h = refl
unchanged f g (x ∷ xs) d h = ap (λ y. y ∷ map f (map g xs)) (h 0 (omega arith)) ∙ ap (λ ys. x ∷ ys) (unchanged f g xs d (λ k less. h (suc k) (omega (arith, less))))

-- names

abbrev pub AreOwn : List (List ℕ) → Type 0
AreOwn names = (a b : ℕ) → a < b → b < length names → slice_index_or names a [] ≢ slice_index_or names b []

same_true : (x : List ℕ) → bytes_eq x x ≡ true
same_true x = (bytes_eq-Decides x x).1 refl

other_false : (x y : List ℕ) → x ≢ y → bytes_eq x y ≡ false
other_false x y apart = ⊎_elim (λ yes. absurd (apart ((bytes_eq-Decides x y).0 yes))) (λ no. no) (cases_Bool (bytes_eq x y))

own_rest : (x : List ℕ) (names : List (List ℕ)) → AreOwn (x ∷ names) → AreOwn names
own_rest x names own a b less high = own (suc a) (suc b) (omega (arith, less)) (omega (arith, high))

number_from_is : (names : List (List ℕ)) (n k : ℕ) → AreOwn names → k < length names → number_named_from n names (slice_index_or names k []) ≡ n + k
number_from_is [] n k own less = absurd (omega (arith, less))
number_from_is (x ∷ names) n zero own less = let e : n + 0 ≡ n = omega arith in rw (same_true x) (sym e)
number_from_is (x ∷ names) n (suc k) own less =
    let apart = other_false x (slice_index_or names k []) (own 0 (suc k) (omega arith) less) in
    let e : suc n + k ≡ n + suc k = omega arith in
    rw apart (number_from_is names (suc n) k (own_rest x names own) (omega (arith, less)) ∙ e)

pub number_is : (names : List (List ℕ)) (i : ℕ) → AreOwn names → 1 ≤ i → i ≤ length names → number_named names (slice_index_or names (i - 1) []) ≡ i
number_is names i own low high = let e : 1 + (i - 1) ≡ i = omega (arith, low) in number_from_is names 1 (i - 1) own (omega (arith, low, high)) ∙ e

among_in : (names : List (List ℕ)) (k : ℕ) → k < length names → is_among names (slice_index_or names k []) ≡ true
among_in [] k less = absurd (omega (arith, less))
among_in (x ∷ names) zero less = rw (same_true x) refl
among_in (x ∷ names) (suc k) less = or_right (bytes_eq x (slice_index_or names k [])) (is_among names (slice_index_or names k [])) (among_in names k (omega (arith, less)))
  where
    or_right : (a b : Bool) → b ≡ true → (a || b) ≡ true
    or_right true b h = refl
    or_right false b h = h

not_among : (names : List (List ℕ)) (x : List ℕ) → ((k : ℕ) → k < length names → slice_index_or names k [] ≢ x) → is_among names x ≡ false
not_among [] x h = refl
not_among (y ∷ names) x h = rw (other_false y x (h 0 (omega arith))) (not_among names x (λ k less. h (suc k) (omega (arith, less))))

-- no earlier name is the same
pub none_before : (names : List (List ℕ)) (k : ℕ) → AreOwn names → k < length names → is_among (take k names) (slice_index_or names k []) ≡ false
none_before names k own less =
    not_among (take k names) (slice_index_or names k []) (λ a few.
    let early : a < k = omega (arith, few, length-take-le k names) in
    λ same. own a k early less (sym (get_or-take k names a [] early) ∙ same))

-- rules that hold

passes : (b : Bool) (c : ModelCode) (p : Place) (k : Option Key) (t : Option ℕ) → b ≡ true → unless b c p k t ≡ None
passes b c p k t h = rw h refl

both_true : (a b : Bool) → a ≡ true → b ≡ true → (a && b) ≡ true
both_true a b h i = rw (h, i) refl

le_true : (a b : ℕ) → a ≤ b → nat_le a b ≡ true
le_true a b h = grind (arith, h)

none_then : (a b : Fault) → a ≡ None → b ≡ None → or_then a b ≡ None
none_then a b h i = rw h i

-- no member has a fault
pub all_pass : {A : Type 0} (f : ℕ → A → Fault) (n : ℕ) (xs : List A) (d : A) → ((k : ℕ) → k < length xs → f (n + k) (slice_index_or xs k d) ≡ None) → first_in f n xs ≡ None
all_pass f n [] d h = refl
all_pass f n (x ∷ xs) d h =
    let e : n + 0 ≡ n = omega arith in
    none_then (f n x) (first_in f (suc n) xs) (ap (λ m. f m x) (sym e) ∙ h 0 (omega arith)) (all_pass f (suc n) xs d (λ k less. let g : suc n + k ≡ n + suc k = omega arith in ap (λ m. f m (slice_index_or xs k d)) g ∙ h (suc k) (omega (arith, less))))

from_true : (low most n : ℕ) → low ≤ n → n ≤ most → is_from (pos low) (pos most) (pos n) ≡ true
from_true low most n h i = both_true (nat_le low n) (nat_le n most) (le_true low n h) (le_true n most i)

number_pass : (low most n : ℕ) (p : Place) (k : Key) → low ≤ n → n ≤ most → number_fault (pos low) (pos most) p k (pos n) ≡ None
number_pass low most n p k h i = passes _ _ _ _ _ (from_true low most n h i)

series_pass : (t : ℕ) (p : Place) (k : Key) (xs : List ℕ) → IsSeries t MAX_AMOUNT xs → series_fault (pos t) p k (wholes xs) ≡ None
series_pass t p k xs series =
    let size : length (wholes xs) ≡ t = length-map xs (λ x. pos x) ∙ series.size in
    none_then _ _
    (passes _ _ _ _ _ (both_true (nat_le (length (wholes xs)) t) (nat_le t (length (wholes xs))) (le_true _ _ (omega (arith, size))) (le_true _ _ (omega (arith, size)))))
    (all_pass (entry_fault p k) 1 (wholes xs) (pos 0) (λ n less.
    let e : slice_index_or (wholes xs) n (pos 0) ≡ pos (slice_index_or xs n 0) = get_or-map (λ x. pos x) xs n 0 in
    let few : n < length xs = omega (arith, less, length-map xs (λ x. pos x)) in
    ap (entry_fault p k (1 + n)) e ∙ passes _ _ _ _ _ (from_true 0 MAX_AMOUNT (slice_index_or xs n 0) (omega arith) (series.small n 0 few))))

optional_series_pass : (t : ℕ) (p : Place) (k : Key) (xs : Option (List ℕ)) → IfSome xs (IsSeries t MAX_AMOUNT) → optional_series_fault (pos t) p k (option_map wholes xs) ≡ None
optional_series_pass t p k None h = refl
optional_series_pass t p k (Some xs) h = series_pass t p k xs h

lot_pass : (p : Place) (k : Key) (least : ℕ) (most : Option ℕ) → IfSome most (λ n. (1 ≤ n) × (n ≤ MAX_AMOUNT) × (least ≤ n)) → optional_number_fault (pos 1) (pos MAX_AMOUNT) p k (option_map (λ x. pos x) most) ≡ None
lot_pass p k least None h = refl
lot_pass p k least (Some n) h = number_pass 1 MAX_AMOUNT n p k h.0 h.1

ordered : (least : ℕ) (most : Option ℕ) → IfSome most (λ n. (1 ≤ n) × (n ≤ MAX_AMOUNT) × (least ≤ n)) → is_ordered (pos least) (option_map (λ x. pos x) most) ≡ true
ordered least None h = refl
ordered least (Some n) h = le_true least n h.2

natural_max : (most : Option ℕ) → option_map natural (option_map (λ x. pos x) most) ≡ most
natural_max None = refl
natural_max (Some n) = refl

naturals_back : (xs : Option (List ℕ)) → option_map naturals (option_map wholes xs) ≡ xs
naturals_back None = refl
naturals_back (Some xs) = ap Some (naturals_whole xs)

-- members of lists that are written out

member_written : {A B : Type 0} (f : A → B) (xs : List A) (k : ℕ) (d : A) → slice_index_or (map f xs) k (f d) ≡ f (slice_index_or xs k d)
member_written f xs k d = get_or-map f xs k d

abbrev names_of : Problem → List (List ℕ)
names_of p = item_names (written_out p).items

abbrev resource_names_of : Problem → List (List ℕ)
resource_names_of p = resource_names (written_out p).resources

name_count : (p : Problem) → length (names_of p) ≡ item_count p
name_count p = length-map (map (item_written p) p.items) (λ i. i.name) ∙ length-map p.items (item_written p)

resource_name_count : (p : Problem) → length (resource_names_of p) ≡ resource_count p
resource_name_count p = length-map (map resource_written p.resources) (λ r. r.name) ∙ length-map p.resources resource_written

name_at : (p : Problem) (k : ℕ) → slice_index_or (names_of p) k [] ≡ (slice_index_or p.items k no_item).name
name_at p k = get_or-map (λ i. i.name) (map (item_written p) p.items) k (item_written p no_item) ∙ ap (λ i. i.name) (get_or-map (item_written p) p.items k no_item)

resource_name_at : (p : Problem) (k : ℕ) → slice_index_or (resource_names_of p) k [] ≡ (slice_index_or p.resources k no_resource).name
resource_name_at p k = get_or-map (λ r. r.name) (map resource_written p.resources) k (resource_written no_resource) ∙ ap (λ r. r.name) (get_or-map resource_written p.resources k no_resource)

here : (k : ℕ) → suc k - 1 ≡ k
here k = omega arith

own_names : (p : Problem) → HaveOwnNames p → AreOwn (names_of p)
own_names p own a b less high =
    let count = name_count p in
    λ same. own (suc a) (suc b) (omega arith) (omega (arith, less)) (omega (arith, high, count)) (
    ap (λ k. (slice_index_or p.items k no_item).name) (here a) ∙ sym (name_at p a) ∙ same ∙ name_at p b ∙ ap (λ k. (slice_index_or p.items k no_item).name) (sym (here b)))

own_resource_names : (p : Problem) → HaveOwnResourceNames p → AreOwn (resource_names_of p)
own_resource_names p own a b less high =
    let count = resource_name_count p in
    λ same. own (suc a) (suc b) (omega arith) (omega (arith, less)) (omega (arith, high, count)) (
    ap (λ k. (slice_index_or p.resources k no_resource).name) (here a) ∙ sym (resource_name_at p a) ∙ same ∙ resource_name_at p b ∙ ap (λ k. (slice_index_or p.resources k no_resource).name) (sym (here b)))

item_numbered : (p : Problem) → HaveOwnNames p → (i : ℕ) → 1 ≤ i → i ≤ item_count p → number_named (names_of p) (item_at p i).name ≡ i
item_numbered p own i low high = ap (number_named (names_of p)) (sym (name_at p (i - 1))) ∙ number_is (names_of p) i (own_names p own) low (omega (arith, high, name_count p))

resource_numbered : (p : Problem) → HaveOwnResourceNames p → (k : ℕ) → 1 ≤ k → k ≤ resource_count p → number_named (resource_names_of p) (resource_at p k).name ≡ k
resource_numbered p own k low high = ap (number_named (resource_names_of p)) (sym (resource_name_at p (k - 1))) ∙ number_is (resource_names_of p) k (own_resource_names p own) low (omega (arith, high, resource_name_count p))

item_known : (p : Problem) (i : ℕ) → 1 ≤ i → i ≤ item_count p → is_among (names_of p) (item_at p i).name ≡ true
item_known p i low high = ap (is_among (names_of p)) (sym (name_at p (i - 1))) ∙ among_in (names_of p) (i - 1) (omega (arith, low, high, name_count p))

resource_known : (p : Problem) (k : ℕ) → 1 ≤ k → k ≤ resource_count p → is_among (resource_names_of p) (resource_at p k).name ≡ true
resource_known p k low high = ap (is_among (resource_names_of p)) (sym (resource_name_at p (k - 1))) ∙ among_in (resource_names_of p) (k - 1) (omega (arith, low, high, resource_name_count p))

-- two items of one name are the same
pub same_item_of : (p : Problem) → HaveOwnNames p → (i j : ℕ) → 1 ≤ i → i ≤ item_count p → 1 ≤ j → j ≤ item_count p → (item_at p i).name ≡ (item_at p j).name → i ≡ j
same_item_of p own i j low high j_low j_high same =
    ⊎_elim
    (λ less. absurd (own i j low less j_high same))
    (λ no. ⊎_elim (λ more. absurd (own j i j_low more high (sym same))) (λ neither. omega (arith, no, neither)) (cases_lt j i))
    (cases_lt i j)

same_resource_of : (p : Problem) → HaveOwnResourceNames p → (k l : ℕ) → 1 ≤ k → k ≤ resource_count p → 1 ≤ l → l ≤ resource_count p → (resource_at p k).name ≡ (resource_at p l).name → k ≡ l
same_resource_of p own k l low high l_low l_high same =
    ⊎_elim
    (λ less. absurd (own k l low less l_high same))
    (λ no. ⊎_elim (λ more. absurd (own l k l_low more high (sym same))) (λ neither. omega (arith, no, neither)) (cases_lt l k))
    (cases_lt k l)

-- what is read is the problem

needs_same : (p : Problem) → HaveOwnNames p → (needs : List Need) → All (λ need. (1 ≤ need.item) × (need.item ≤ item_count p)) needs → map (need_of (names_of p)) (map (need_written p) needs) ≡ needs
needs_same p own needs there = unchanged (need_of (names_of p)) (need_written p) needs no_need (λ k less.
    let need = slice_index_or needs k no_need in
    let is = there k no_need less in
    ap (λ i. record { item = i; quantity = need.quantity }) (item_numbered p own need.item is.0 is.1))

uses_same : (p : Problem) → HaveOwnResourceNames p → (uses : List Usage) → All (λ usage. (1 ≤ usage.resource) × (usage.resource ≤ resource_count p)) uses → map (use_of (resource_names_of p)) (map (use_written p) uses) ≡ uses
uses_same p own uses there = unchanged (use_of (resource_names_of p)) (use_written p) uses no_usage (λ k less.
    let usage = slice_index_or uses k no_usage in
    let is = there k no_usage less in
    ap (λ r. record { resource = r; unit = usage.unit; setup = usage.setup }) (resource_numbered p own usage.resource is.0 is.1))

-- an item with these lists
abbrev item_with : Item → List ℕ → List ℕ → List ℕ → List ℕ → Option (List ℕ) → Option ℕ → List Need → List Usage → Item
item_with a demand unit setup hold back most needs uses = record {
  name = a.name;
  demand = demand;
  unit_cost = unit;
  setup_cost = setup;
  hold_cost = hold;
  backlog_cost = back;
  opening = a.opening;
  end_min = a.end_min;
  end_max = a.end_max;
  lead = a.lead;
  min_lot = a.min_lot;
  max_lot = most;
  needs = needs;
  uses = uses;
}

item_is : (a : Item) (demand unit setup hold : List ℕ) (back : Option (List ℕ)) (most : Option ℕ) (needs : List Need) (uses : List Usage) → demand ≡ a.demand → unit ≡ a.unit_cost → setup ≡ a.setup_cost → hold ≡ a.hold_cost → back ≡ a.backlog_cost → most ≡ a.max_lot → needs ≡ a.needs → uses ≡ a.uses → item_with a demand unit setup hold back most needs uses ≡ a
item_is a demand unit setup hold back most needs uses h1 h2 h3 h4 h5 h6 h7 h8 = rw (h1, h2, h3, h4, h5, h6, h7, h8) refl

item_same : (p : Problem) → IsValid p → (a : Item) → IsItem (item_count p) (resource_count p) p.periods a → item_of (resource_names_of p) (names_of p) (item_written p a) ≡ a
item_same p valid a is =
    item_is a _ _ _ _ _ _ _ _
    (naturals_whole a.demand)
    (naturals_whole a.unit_cost)
    (naturals_whole a.setup_cost)
    (naturals_whole a.hold_cost)
    (naturals_back a.backlog_cost)
    (natural_max a.max_lot)
    (needs_same p valid.names a.needs is.needs.items_exist)
    (uses_same p valid.resource_names a.uses is.uses.resources_exist)

item_in : (p : Problem) → IsWithinLimits p → (k : ℕ) → k < item_count p → IsItem (item_count p) (resource_count p) p.periods (slice_index_or p.items k no_item)
item_in p within k less = subst (λ n. IsItem (item_count p) (resource_count p) p.periods (slice_index_or p.items n no_item)) (here k) (within.each_item (suc k) (omega arith) (omega (arith, less)))

resource_in : (p : Problem) → IsWithinLimits p → (k : ℕ) → k < resource_count p → IsResource p.periods (slice_index_or p.resources k no_resource)
resource_in p within k less = subst (λ n. IsResource p.periods (slice_index_or p.resources n no_resource)) (here k) (within.each_resource (suc k) (omega arith) (omega (arith, less)))

resource_same : (r : Resource) → resource_of (resource_written r) ≡ r
resource_same r = ap (λ xs. record { name = r.name; capacity = xs }) (naturals_whole r.capacity)

abbrev problem_with : Problem → List Resource → List Item → Problem
problem_with p resources items = record { periods = p.periods; resources = resources; items = items }

problem_is : (p : Problem) (resources : List Resource) (items : List Item) → resources ≡ p.resources → items ≡ p.items → problem_with p resources items ≡ p
problem_is p resources items h i = rw (h, i) refl

pub read_back : (p : Problem) → IsWithinLimits p → IsValid p → problem_of (written_out p) ≡ p
read_back p within valid =
    problem_is p _ _
    (unchanged resource_of resource_written p.resources no_resource (λ k less. resource_same (slice_index_or p.resources k no_resource)))
    (unchanged (item_of (resource_names_of p) (names_of p)) (item_written p) p.items no_item (λ k less. item_same p valid (slice_index_or p.items k no_item) (item_in p within k less)))

-- no rule is broken

bill_lines : (f : Item → RawItem) → ((a : Item) → length (f a).needs ≡ length a.needs) → (items : List Item) → sum_by (λ i. length i.needs) (map f items) ≡ sum_by (λ a. length a.needs) items
bill_lines f same [] = refl
bill_lines f same (a ∷ items) =
    sum_by-cons (λ i. length i.needs) (f a) (map f items)
    ∙ ap (λ n. n + sum_by (λ i. length i.needs) (map f items)) (same a)
    ∙ ap (λ n. length a.needs + n) (bill_lines f same items)
    ∙ sym (sum_by-cons (λ b. length b.needs) a items)

counts_pass : (p : Problem) → IsWithinLimits p → sum_by (λ a. length a.needs) p.items ≤ MAX_BILL_LINES → count_fault (written_out p) ≡ None
counts_pass p within few =
    let items = length-map p.items (item_written p) in
    let resources = length-map p.resources resource_written in
    let lines = bill_lines (item_written p) (λ a. length-map a.needs (need_written p)) p.items in
    none_then _ _
    (passes _ _ _ _ _ (from_true 1 MAX_PERIODS p.periods within.some_period within.periods))
    (none_then _ _
    (passes _ _ _ _ _ (le_true (length (map resource_written p.resources)) MAX_RESOURCES (omega (arith, resources, within.resources))))
    (none_then _ _
    (passes _ _ _ _ _ (both_true (nat_le 1 (length (map (item_written p) p.items))) (nat_le (length (map (item_written p) p.items)) MAX_ITEMS) (le_true 1 (length (map (item_written p) p.items)) (omega (arith, items, within.some_item))) (le_true (length (map (item_written p) p.items)) MAX_ITEMS (omega (arith, items, within.items)))))
    (passes _ _ _ _ _ (le_true (sum_by (λ i. length i.needs) (map (item_written p) p.items)) MAX_BILL_LINES (omega (arith, lines, few))))))

names_pass : (p : Problem) → IsWithinLimits p → name_fault (written_out p) ≡ None
names_pass p within =
    none_then _ _
    (all_pass resource_name_fault 1 (map resource_written p.resources) (resource_written no_resource) (λ k less.
    let few : k < resource_count p = omega (arith, less, length-map p.resources resource_written) in
    ap (resource_name_fault (1 + k)) (member_written resource_written p.resources k no_resource) ∙ passes _ _ _ _ _ (resource_in p within k few).name))
    (all_pass item_name_fault 1 (map (item_written p) p.items) (item_written p no_item) (λ k less.
    let few : k < item_count p = omega (arith, less, length-map p.items (item_written p)) in
    ap (item_name_fault (1 + k)) (member_written (item_written p) p.items k no_item) ∙ passes _ _ _ _ _ (item_in p within k few).name))

not_true : (b : Bool) → b ≡ false → not b ≡ true
not_true b h = rw h refl

-- the name of a member stands in no earlier one
repeat_passes : (at : ℕ → Place) (names : List (List ℕ)) (k : ℕ) (name : List ℕ) → AreOwn names → k < length names → slice_index_or names k [] ≡ name → repeat_at at names (1 + k) name ≡ None
repeat_passes at names k name own less is =
    let e : 1 + k - 1 ≡ k = omega arith in
    passes _ _ _ _ _ (not_true _ (ap (λ n. is_among (take n names) name) e ∙ ap (is_among (take k names)) (sym is) ∙ none_before names k own less))

repeats_pass : (p : Problem) → IsValid p → repeat_fault (written_out p) ≡ None
repeats_pass p valid =
    none_then _ _
    (all_pass (resource_repeat (written_out p).resources) 1 (map resource_written p.resources) (resource_written no_resource) (λ k less.
    let few : k < length (resource_names_of p) = omega (arith, less, length-map p.resources resource_written, resource_name_count p) in
    ap (resource_repeat (written_out p).resources (1 + k)) (member_written resource_written p.resources k no_resource)
    ∙ repeat_passes place.Resource (resource_names_of p) k (slice_index_or p.resources k no_resource).name (own_resource_names p valid.resource_names) few (resource_name_at p k)))
    (all_pass (item_repeat (written_out p).items) 1 (map (item_written p) p.items) (item_written p no_item) (λ k less.
    let few : k < length (names_of p) = omega (arith, less, length-map p.items (item_written p), name_count p) in
    ap (item_repeat (written_out p).items (1 + k)) (member_written (item_written p) p.items k no_item)
    ∙ repeat_passes place.Item (names_of p) k (slice_index_or p.items k no_item).name (own_names p valid.names) few (name_at p k)))

lists_pass : (p : Problem) (i : ℕ) (a : Item) → HasLists p.periods a → item_lists_fault (pos p.periods) i (item_written p a) ≡ None
lists_pass p i a lists =
    none_then _ _ (series_pass p.periods _ _ a.demand lists.demand)
    (none_then _ _ (series_pass p.periods _ _ a.unit_cost lists.unit_cost)
    (none_then _ _ (series_pass p.periods _ _ a.setup_cost lists.setup_cost)
    (none_then _ _ (series_pass p.periods _ _ a.hold_cost lists.hold_cost) (optional_series_pass p.periods _ _ a.backlog_cost lists.backlog_cost))))

item_numbers_pass : (p : Problem) (i : ℕ) (a : Item) → IsItem (item_count p) (resource_count p) p.periods a → item_numbers_fault (pos p.periods) i (item_written p a) ≡ None
item_numbers_pass p i a is =
    none_then (item_lists_fault (pos p.periods) i (item_written p a)) _ (lists_pass p i a is.lists)
    (none_then (item_stocks_fault i (item_written p a)) (item_lots_fault i (item_written p a))
    (none_then _ _ (number_pass 0 MAX_AMOUNT a.opening _ _ (omega arith) is.opening)
    (none_then _ _ (number_pass 0 MAX_AMOUNT a.end_min _ _ (omega arith) is.end_min) (number_pass 0 MAX_END_STOCK a.end_max _ _ (omega arith) is.end_max)))
    (none_then _ _ (number_pass 0 MAX_LEAD a.lead _ _ (omega arith) is.lead)
    (none_then _ _ (number_pass 0 MAX_AMOUNT a.min_lot _ _ (omega arith) is.min_lot) (lot_pass _ _ a.min_lot a.max_lot is.max_lot))))

numbers_pass : (p : Problem) → IsWithinLimits p → numbers_fault (written_out p) ≡ None
numbers_pass p within =
    none_then _ _
    (all_pass (capacity_fault (pos p.periods)) 1 (map resource_written p.resources) (resource_written no_resource) (λ k less.
    let few : k < resource_count p = omega (arith, less, length-map p.resources resource_written) in
    let r = slice_index_or p.resources k no_resource in
    ap (capacity_fault (pos p.periods) (1 + k)) (member_written resource_written p.resources k no_resource) ∙ series_pass p.periods _ _ r.capacity (resource_in p within k few).capacity))
    (all_pass (item_numbers_fault (pos p.periods)) 1 (map (item_written p) p.items) (item_written p no_item) (λ k less.
    let few : k < item_count p = omega (arith, less, length-map p.items (item_written p)) in
    ap (item_numbers_fault (pos p.periods) (1 + k)) (member_written (item_written p) p.items k no_item) ∙ item_numbers_pass p (1 + k) (slice_index_or p.items k no_item) (item_in p within k few)))

-- the names of an item's lines
need_name_at : (p : Problem) (needs : List Need) (k : ℕ) → k < length needs → slice_index_or (need_names (map (need_written p) needs)) k [] ≡ (item_at p (slice_index_or needs k no_need).item).name
need_name_at p needs k less =
    let lines = map (need_written p) needs in
    let count = length-map needs (need_written p) in
    get_or_default (need_names lines) k [] ((need_written p no_need).item) (omega (arith, less, count, length-map lines (λ n. n.item)))
    ∙ get_or-map (λ n. n.item) lines k (need_written p no_need)
    ∙ ap (λ n. n.item) (get_or-map (need_written p) needs k no_need)

use_name_at : (p : Problem) (uses : List Usage) (k : ℕ) → k < length uses → slice_index_or (use_names (map (use_written p) uses)) k [] ≡ (resource_at p (slice_index_or uses k no_usage).resource).name
use_name_at p uses k less =
    let lines = map (use_written p) uses in
    let count = length-map uses (use_written p) in
    get_or_default (use_names lines) k [] ((use_written p no_usage).resource) (omega (arith, less, count, length-map lines (λ u. u.resource)))
    ∙ get_or-map (λ u. u.resource) lines k (use_written p no_usage)
    ∙ ap (λ u. u.resource) (get_or-map (use_written p) uses k no_usage)

own_needs : (p : Problem) → HaveOwnNames p → (needs : List Need) → All (λ need. (1 ≤ need.item) × (need.item ≤ item_count p)) needs → NameOnce needs → AreOwn (need_names (map (need_written p) needs))
own_needs p own needs there once a b less high =
    let count = length-map (map (need_written p) needs) (λ n. n.item) ∙ length-map needs (need_written p) in
    let b_high : b < length needs = omega (arith, high, count) in
    let a_high : a < length needs = omega (arith, less, b_high) in
    let one = there a no_need a_high in
    let other = there b no_need b_high in
    λ same. once a b less b_high (same_item_of p own _ _ one.0 one.1 other.0 other.1 (sym (need_name_at p needs a a_high) ∙ same ∙ need_name_at p needs b b_high))

own_uses : (p : Problem) → HaveOwnResourceNames p → (uses : List Usage) → All (λ usage. (1 ≤ usage.resource) × (usage.resource ≤ resource_count p)) uses → UseOnce uses → AreOwn (use_names (map (use_written p) uses))
own_uses p own uses there once a b less high =
    let count = length-map (map (use_written p) uses) (λ u. u.resource) ∙ length-map uses (use_written p) in
    let b_high : b < length uses = omega (arith, high, count) in
    let a_high : a < length uses = omega (arith, less, b_high) in
    let one = there a no_usage a_high in
    let other = there b no_usage b_high in
    λ same. once a b less b_high (same_resource_of p own _ _ one.0 one.1 other.0 other.1 (sym (use_name_at p uses a a_high) ∙ same ∙ use_name_at p uses b b_high))

needs_pass : (p : Problem) → IsValid p → (i : ℕ) (a : Item) → IsItem (item_count p) (resource_count p) p.periods a → NameOnce a.needs → first_in (need_fault (names_of p) i (map (need_written p) a.needs)) 1 (map (need_written p) a.needs) ≡ None
needs_pass p valid i a is once = all_pass (need_fault (names_of p) i (map (need_written p) a.needs)) 1 (map (need_written p) a.needs) (need_written p no_need) (λ k less.
    let lines = map (need_written p) a.needs in
    let few : k < length a.needs = omega (arith, less, length-map a.needs (need_written p)) in
    let need = slice_index_or a.needs k no_need in
    let there = is.needs.items_exist k no_need few in
    let size = is.needs.quantities k no_need few in
    ap (need_fault (names_of p) i lines (1 + k)) (member_written (need_written p) a.needs k no_need)
    ∙ none_then _ _ (passes _ _ _ _ _ (item_known p need.item there.0 there.1))
    (none_then _ _ (repeat_passes (place.Need i) (need_names lines) k (item_at p need.item).name (own_needs p valid.names a.needs is.needs.items_exist once) (omega (arith, less, length-map lines (λ n. n.item))) (need_name_at p a.needs k few)) (number_pass 1 MAX_QUANTITY need.quantity _ _ size.0 size.1)))

uses_pass : (p : Problem) → IsValid p → (i : ℕ) (a : Item) → IsItem (item_count p) (resource_count p) p.periods a → UseOnce a.uses → first_in (use_fault (resource_names_of p) i (map (use_written p) a.uses)) 1 (map (use_written p) a.uses) ≡ None
uses_pass p valid i a is once = all_pass (use_fault (resource_names_of p) i (map (use_written p) a.uses)) 1 (map (use_written p) a.uses) (use_written p no_usage) (λ k less.
    let lines = map (use_written p) a.uses in
    let few : k < length a.uses = omega (arith, less, length-map a.uses (use_written p)) in
    let usage = slice_index_or a.uses k no_usage in
    let there = is.uses.resources_exist k no_usage few in
    let times = is.uses.times k no_usage few in
    ap (use_fault (resource_names_of p) i lines (1 + k)) (member_written (use_written p) a.uses k no_usage)
    ∙ none_then _ _ (passes _ _ _ _ _ (resource_known p usage.resource there.0 there.1))
    (none_then _ _ (repeat_passes (place.Usage i) (use_names lines) k (resource_at p usage.resource).name (own_uses p valid.resource_names a.uses is.uses.resources_exist once) (omega (arith, less, length-map lines (λ u. u.resource))) (use_name_at p a.uses k few))
    (none_then _ _ (number_pass 0 MAX_AMOUNT usage.unit _ _ (omega arith) times.0) (number_pass 0 MAX_AMOUNT usage.setup _ _ (omega arith) times.1))))

lines_pass : (p : Problem) → IsWithinLimits p → IsValid p → lines_fault (written_out p) ≡ None
lines_pass p within valid = all_pass (item_lines_fault (written_out p)) 1 (map (item_written p) p.items) (item_written p no_item) (λ k less.
    let few : k < item_count p = omega (arith, less, length-map p.items (item_written p)) in
    let a = slice_index_or p.items k no_item in
    let is = item_in p within k few in
    let needs = subst (λ n. NameOnce (slice_index_or p.items n no_item).needs) (here k) (valid.needs_once (suc k) (omega arith) (omega (arith, few))) in
    let uses = subst (λ n. UseOnce (slice_index_or p.items n no_item).uses) (here k) (valid.uses_once (suc k) (omega arith) (omega (arith, few))) in
    ap (item_lines_fault (written_out p) (1 + k)) (member_written (item_written p) p.items k no_item)
    ∙ none_then _ _ (needs_pass p valid (1 + k) a is needs) (uses_pass p valid (1 + k) a is uses))

pub plain_passes : (p : Problem) → IsWithinLimits p → sum_by (λ a. length a.needs) p.items ≤ MAX_BILL_LINES → IsValid p → plain_fault (written_out p) ≡ None
plain_passes p within few valid =
    none_then _ _ (counts_pass p within few)
    (none_then _ _ (names_pass p within)
    (none_then _ _ (repeats_pass p valid)
    (none_then _ _ (numbers_pass p within) (lines_pass p within valid))))

no_back : (b : Option (List ℕ)) (c : Bool) → IsNone b → not (c && is_some (option_map wholes b)) ≡ true
no_back None true h = refl
no_back None false h = refl
no_back (Some xs) c h = absurd (cc h)

not_taken : (c : Bool) (b : Option (List ℕ)) → c ≡ false → not (c && is_some (option_map wholes b)) ≡ true
not_taken c b h = rw h refl

-- an item takes units of the component of a line
abbrev units_in : ℕ → Item → ℕ
units_in i a = sum_by (λ need. if need.item == i then need.quantity else 0) a.needs

line_units : (need : Need) (i : ℕ) → need.item ≡ i → (if need.item == i then need.quantity else 0) ≡ need.quantity
line_units need i h = grind (arith, h)

takes_units : (i : ℕ) (a : Item) (n : ℕ) → n < length a.needs → (slice_index_or a.needs n no_need).item ≡ i → 1 ≤ (slice_index_or a.needs n no_need).quantity → 0 < units_in i a
takes_units i a n less is some =
    let f = λ (need : Need). if need.item == i then need.quantity else 0 in
    omega (arith, get_or-le-sum_by f a.needs n no_need less, line_units (slice_index_or a.needs n no_need) i is, some)

-- an item whose name stands in a line goes into an item
goes_into : (p : Problem) → IsWithinLimits p → IsValid p → (i : ℕ) → 1 ≤ i → i ≤ item_count p → is_component (written_out p).items (item_at p i).name ≡ true → (j : ℕ) × (1 ≤ j) × (j ≤ item_count p) × (0 < per_unit p i j)
goes_into p within valid i low high found =
    let name = (item_at p i).name in
    let items = map (item_written p) p.items in
    let (k, one, less, is, among) = Any-from_list_any (λ a. is_among (need_names a.needs) name) items found in
    let few : k < item_count p = omega (arith, less, length-map p.items (item_written p)) in
    let a = slice_index_or p.items k no_item in
    let same : one ≡ item_written p a = sym is ∙ get_or_default items k one (item_written p no_item) less ∙ member_written (item_written p) p.items k no_item in
    let lines = map (need_written p) a.needs in
    let (n, other, n_less, n_is, eq) = Any-from_list_any (λ x. bytes_eq x name) (need_names lines) (ap (λ b. is_among (need_names b.needs) name) (sym same) ∙ among) in
    let n_few : n < length a.needs = omega (arith, n_less, length-map lines (λ x. x.item), length-map a.needs (need_written p)) in
    let there = (item_in p within k few).needs.items_exist n no_need n_few in
    let size = (item_in p within k few).needs.quantities n no_need n_few in
    let line_name : (item_at p (slice_index_or a.needs n no_need).item).name ≡ name = sym (need_name_at p a.needs n n_few) ∙ get_or_default (need_names lines) n [] other n_less ∙ n_is ∙ (bytes_eq-Decides other name).0 eq in
    let which = same_item_of p valid.names (slice_index_or a.needs n no_need).item i there.0 there.1 low high line_name in
    (suc k, omega arith, omega (arith, few), subst (λ m. 0 < units_in i (slice_index_or p.items m no_item)) (sym (here k)) (takes_units i a n n_few which size.0))

backlogs_pass : (p : Problem) → IsWithinLimits p → IsValid p → first_in (backlog_fault (written_out p).items) 1 (written_out p).items ≡ None
backlogs_pass p within valid = all_pass (backlog_fault (written_out p).items) 1 (map (item_written p) p.items) (item_written p no_item) (λ k less.
    let few : k < item_count p = omega (arith, less, length-map p.items (item_written p)) in
    let a = slice_index_or p.items k no_item in
    let rule : not (is_component (written_out p).items a.name && is_some (option_map wholes a.backlog_cost)) ≡ true =
    ⊎_elim
    (λ component.
    let goes = goes_into p within valid (suc k) (omega arith) (omega (arith, few)) (ap (λ n. is_component (written_out p).items (slice_index_or p.items n no_item).name) (here k) ∙ component) in
    no_back a.backlog_cost _ (subst (λ n. IsNone (slice_index_or p.items n no_item).backlog_cost) (here k) (valid.no_backlogs (suc k) goes.0 (omega arith) (omega (arith, few)) goes.1 goes.2 goes.3)))
    (λ free. not_taken _ a.backlog_cost free)
    (cases_Bool (is_component (written_out p).items a.name)) in
    ap (backlog_fault (written_out p).items (1 + k)) (member_written (item_written p) p.items k no_item) ∙ passes _ _ _ _ _ rule)

pub later_passes : (p : Problem) → IsWithinLimits p → IsValid p → later_fault (written_out p) ≡ None
later_passes p within valid =
    none_then _ _ (backlogs_pass p within valid)
    (none_then _ _
    (all_pass ends_fault 1 (map (item_written p) p.items) (item_written p no_item) (λ k less.
    let few : k < item_count p = omega (arith, less, length-map p.items (item_written p)) in
    ap (ends_fault (1 + k)) (member_written (item_written p) p.items k no_item) ∙ passes _ _ _ _ _ (le_true _ _ (item_in p within k few).ends)))
    (all_pass lots_fault 1 (map (item_written p) p.items) (item_written p no_item) (λ k less.
    let few : k < item_count p = omega (arith, less, length-map p.items (item_written p)) in
    let a = slice_index_or p.items k no_item in
    ap (lots_fault (1 + k)) (member_written (item_written p) p.items k no_item) ∙ passes _ _ _ _ _ (ordered a.min_lot a.max_lot (item_in p within k few).max_lot))))
