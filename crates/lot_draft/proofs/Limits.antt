-- A model with no fault stands for a problem within the limits.
use Rattle.std.proofs.Common.{◌≡◌, ◌≤◌, ◌<◌, ◌+◌, ◌-◌, ◌*◌, ◌^◌, ◌∙◌, ⊎_elim, ℕ, zero, suc, refl, sym, ap, subst, arith, List, [], ◌∷◌, length, map, take, slice_index_or, Option, Some, None}
use Rattle.std.specs.Prelude.{ℤ, pos, negsuc, int_le, nat_le, Bool, true, false, ◌&&◌, ◌||◌, IfSome, option_map, unwrap_or}
use Rattle.std.specs.List.{All, sum_by}
use Rattle.std.specs.Str.{bytes_eq}
use Rattle.std.proofs.lemmas.Bool.{cases_Bool}
use Rattle.std.proofs.lemmas.List.{get_or_default, length-map, take_all}
use Rattle.std.proofs.lemmas.List.Elements.{All-map}
use Rattle.std.proofs.lemmas.List.Sums.{get_or-le-sum_by, sum_by-cons}
use Rattle.std.proofs.Math.ListN.{get_or-map}
use Rattle.lot_sizing.specs.Problem.{AreNeeds, AreUses, HasLists, IsItem, IsName, IsResource, IsSeries, IsWithinLimits, item_at, no_item, no_resource, resource_at}
use Rattle.lot_sizing.specs.Problem as problem
use Rattle.lot_sizing.specs.declared.limits.TheConstants.{MAX_AMOUNT, MAX_BILL_LINES, MAX_END_STOCK, MAX_ITEMS, MAX_LEAD, MAX_PERIODS, MAX_QUANTITY, MAX_RESOURCES}
use Rattle.lot_draft.specs.declared.fault.Place.{Place}
use Rattle.lot_draft.specs.declared.fault.Key.{Key}
use Rattle.lot_draft.specs.Raw.{RawItem, RawModel, RawNeed, RawResource, RawUse}
use Rattle.lot_draft.specs.Meaning.{HaveNeeds, item_of, natural, naturals, need_of, number_named_from, number_named, problem_of, resource_of, use_of}
use Rattle.lot_draft.specs.Refusals.{Fault, capacity_fault, count_fault, ends_fault, entry_fault, first_in, is_among, is_from, is_ordered, item_lines_fault, item_lists_fault, item_lots_fault, item_name_fault, item_names, item_numbers_fault, item_stocks_fault, later_fault, lines_fault, lots_fault, name_fault, need_fault, number_fault, numbers_fault, optional_number_fault, optional_series_fault, or_then, plain_fault, repeat_fault, resource_name_fault, resource_names, series_fault, use_fault, use_names}
use Rattle.lot_draft.proofs.Apart.{known_few, known_in, known_next}
use Rattle.lot_draft.proofs.Faults.{at_most, each_none, first_none, first_of, holds, rest_none, second_of, use_known, use_new}

-- a number within bounds that aren't negative
pub record IsWhole (least most : ℕ) (x : ℤ) : Type 0 where
  pub is : x ≡ pos (natural x)
  pub low : least ≤ natural x
  pub high : natural x ≤ most

pub whole : (low most : ℕ) (x : ℤ) → is_from (pos low) (pos most) x ≡ true → IsWhole low most x
whole low most (pos n) h = record { is = refl; low = at_most low n (first_of (nat_le low n) (nat_le n most) h); high = at_most n most (second_of (nat_le low n) (nat_le n most) h) }
whole low most (negsuc n) h = cc h

pub record IsCounted (m : RawModel) : Type 0 where
  pub periods : IsWhole 1 MAX_PERIODS m.periods
  pub resources : length m.resources ≤ MAX_RESOURCES
  pub some_item : 1 ≤ length m.items
  pub items : length m.items ≤ MAX_ITEMS
  pub lines : sum_by (λ i. length i.needs) m.items ≤ MAX_BILL_LINES

pub counted : (m : RawModel) → count_fault m ≡ None → IsCounted m
counted m h =
    let h1 = rest_none _ _ h in
    let h2 = rest_none _ _ h1 in
    let some = holds _ _ _ _ _ (first_none _ _ h2) in
    record {
      periods = whole 1 MAX_PERIODS m.periods (holds _ _ _ _ _ (first_none _ _ h));
      resources = at_most (length m.resources) MAX_RESOURCES (holds _ _ _ _ _ (first_none _ _ h1));
      some_item = at_most 1 (length m.items) (first_of _ _ some);
      items = at_most (length m.items) MAX_ITEMS (second_of _ _ some);
      lines = at_most (sum_by (λ i. length i.needs) m.items) MAX_BILL_LINES (holds _ _ _ _ _ (rest_none _ _ h2));
    }

same_count : (n t : ℕ) → (int_le (pos n) (pos t) && int_le (pos t) (pos n)) ≡ true → n ≡ t
same_count n t h = let low = at_most n t (first_of (nat_le n t) (nat_le t n) h) in let high = at_most t n (second_of (nat_le n t) (nat_le t n) h) in omega (arith, low, high)

pub series : (t : ℕ) (p : Place) (k : Key) (xs : List ℤ) → series_fault (pos t) p k xs ≡ None → IsSeries t MAX_AMOUNT (naturals xs)
series t p k xs h = record {
  size = length-map xs natural ∙ same_count (length xs) t (holds _ _ _ _ _ (first_none _ _ h));
  small = All-map (λ x. x ≤ MAX_AMOUNT) natural xs (λ i d less. (whole 0 MAX_AMOUNT (slice_index_or xs i d) (holds _ _ _ _ _ (each_none (entry_fault p k) 1 i d xs (rest_none _ _ h) less))).high);
}

optional_series : (t : ℕ) (p : Place) (k : Key) (xs : Option (List ℤ)) → optional_series_fault (pos t) p k xs ≡ None → IfSome (option_map naturals xs) (IsSeries t MAX_AMOUNT)
optional_series t p k None h = tt
optional_series t p k (Some xs) h = series t p k xs h

lists : (t i : ℕ) (a : RawItem) (rs is : List (List ℕ)) → item_lists_fault (pos t) i a ≡ None → HasLists t (item_of rs is a)
lists t i a rs is h =
    let h1 = rest_none _ _ h in
    let h2 = rest_none _ _ h1 in
    let h3 = rest_none _ _ h2 in
    record {
      demand = series t _ _ a.demand (first_none _ _ h);
      unit_cost = series t _ _ a.unit_cost (first_none _ _ h1);
      setup_cost = series t _ _ a.setup_cost (first_none _ _ h2);
      hold_cost = series t _ _ a.hold_cost (first_none _ _ h3);
      backlog_cost = optional_series t _ _ a.backlog_cost (rest_none _ _ h3);
    }

-- a number of a key, within its bounds
number : (low most : ℕ) (p : Place) (k : Key) (x : ℤ) → number_fault (pos low) (pos most) p k x ≡ None → IsWhole low most x
number low most p k x h = whole low most x (holds _ _ _ _ _ h)

end_max : (most : Option ℤ) (p : Place) (k : Key) (least opening : ℤ) → optional_number_fault (pos 0) (pos MAX_END_STOCK) p k most ≡ None → natural least ≤ MAX_AMOUNT → natural opening ≤ MAX_AMOUNT → unwrap_or (option_map natural most) (natural least + natural opening) ≤ MAX_END_STOCK
end_max None p k least opening h low high = omega (arith, low, high)
end_max (Some x) p k least opening h low high = (number 0 MAX_END_STOCK p k x h).high

below : (a b : ℤ) → a ≡ pos (natural a) → b ≡ pos (natural b) → int_le a b ≡ true → natural a ≤ natural b
below a b e f h = at_most (natural a) (natural b) (sym (ap (int_le (pos (natural a))) f) ∙ sym (ap (λ z. int_le z b) e) ∙ h)

ends : (most : Option ℤ) (p : Place) (k : Key) (least opening : ℤ) → optional_number_fault (pos 0) (pos MAX_END_STOCK) p k most ≡ None → IsWhole 0 MAX_AMOUNT least → is_ordered least most ≡ true → natural least ≤ unwrap_or (option_map natural most) (natural least + natural opening)
ends None p k least opening h low apart = omega arith
ends (Some x) p k least opening h low apart = below least x low.is (number 0 MAX_END_STOCK p k x h).is apart

-- a name that is there has a number
number_in_names : (names : List (List ℕ)) (n : ℕ) (x : List ℕ) → is_among names x ≡ true → (n ≤ number_named_from n names x) × (number_named_from n names x < n + length names)
number_in_names [] n x h = cc h
number_in_names (name ∷ names) n x h =
    ⊎_elim
    (λ same. let e : number_named_from n (name ∷ names) x ≡ n = rw same refl in (omega (arith, e), omega (arith, e)))
    (λ other.
    let rest : is_among names x ≡ true = sym (ap (λ b. b || is_among names x) other) ∙ h in
    let e : number_named_from n (name ∷ names) x ≡ number_named_from (suc n) names x = rw other refl in
    let there = number_in_names names (suc n) x rest in
    (omega (arith, e, there.0), omega (arith, e, there.1)))
    (cases_Bool (bytes_eq name x))

pub numbered : (names : List (List ℕ)) (x : List ℕ) → is_among names x ≡ true → (1 ≤ number_named names x) × (number_named names x ≤ length names)
numbered names x h = let there = number_in_names names 1 x h in (there.0, omega (arith, there.1))

needs : (names : List (List ℕ)) (i : ℕ) (lines : List RawNeed) → first_in (need_fault names i lines) 1 lines ≡ None → length lines ≤ MAX_BILL_LINES → AreNeeds (length names) (map (need_of names) lines)
needs names i lines h few =
    let each : (k : ℕ) (d : RawNeed) → k < length lines → need_fault names i lines (1 + k) (slice_index_or lines k d) ≡ None = λ k d less. each_none (need_fault names i lines) 1 k d lines h less in
    record {
      count = omega (arith, few, length-map lines (need_of names));
      items_exist = All-map (λ need. (1 ≤ need.item) × (need.item ≤ length names)) (need_of names) lines (λ k d less. numbered names (slice_index_or lines k d).item (holds _ _ _ _ _ (first_none _ _ (each k d less))));
      quantities = All-map (λ need. (1 ≤ need.quantity) × (need.quantity ≤ MAX_QUANTITY)) (need_of names) lines (λ k d less. let w = number 1 MAX_QUANTITY _ _ (slice_index_or lines k d).quantity (rest_none _ _ (rest_none _ _ (each k d less))) in (w.low, w.high));
    }

blank_use : RawUse
blank_use = record { resource = []; unit = pos 0; setup = pos 0 }

-- lines of resources without a fault are no more than the resources
uses_known : (names : List (List ℕ)) (i : ℕ) (lines : List RawUse) → first_in (use_fault names i lines) 1 lines ≡ None → (k : ℕ) → k ≤ length lines → k ≤ known_in (take k (use_names lines)) names
uses_known names i lines h zero few = omega arith
uses_known names i lines h (suc k) few =
    let a = slice_index_or lines k blank_use in
    let none = each_none (use_fault names i lines) 1 k blank_use lines h (omega (arith, few)) in
    let e : suc k ≡ k + 1 = omega arith in
    let back : (1 + k) - 1 ≡ k = omega arith in
    let read : slice_index_or (use_names lines) k [] ≡ a.resource = get_or_default (map (λ u. u.resource) lines) k [] blank_use.resource (omega (arith, few, length-map lines (λ u. u.resource))) ∙ get_or-map (λ u. u.resource) lines k blank_use in
    rw e (known_next (use_names lines) names k a.resource (omega (arith, few, length-map lines (λ u. u.resource))) read (ap (λ n. is_among (take n (use_names lines)) a.resource) (sym back) ∙ use_new names i lines (1 + k) a none) (use_known names i lines (1 + k) a none) (uses_known names i lines h k (omega (arith, few))))

uses : (names : List (List ℕ)) (i : ℕ) (lines : List RawUse) → first_in (use_fault names i lines) 1 lines ≡ None → length names ≤ MAX_RESOURCES → AreUses (length names) (map (use_of names) lines)
uses names i lines h few =
    let each : (k : ℕ) (d : RawUse) → k < length lines → use_fault names i lines (1 + k) (slice_index_or lines k d) ≡ None = λ k d less. each_none (use_fault names i lines) 1 k d lines h less in
    record {
      count = omega (arith, few, length-map lines (use_of names), uses_known names i lines h (length lines) (omega arith), known_few (take (length lines) (use_names lines)) names);
      resources_exist = All-map (λ usage. (1 ≤ usage.resource) × (usage.resource ≤ length names)) (use_of names) lines (λ k d less. numbered names (slice_index_or lines k d).resource (holds _ _ _ _ _ (first_none _ _ (each k d less))));
      times = All-map (λ usage. (usage.unit ≤ MAX_AMOUNT) × (usage.setup ≤ MAX_AMOUNT)) (use_of names) lines (λ k d less.
          let h2 = rest_none _ _ (rest_none _ _ (each k d less)) in
          ((number 0 MAX_AMOUNT _ _ (slice_index_or lines k d).unit (first_none _ _ h2)).high, (number 0 MAX_AMOUNT _ _ (slice_index_or lines k d).setup (rest_none _ _ h2)).high));
    }

-- what the faults of a model are, where it has no plain one
pub record IsChecked (m : RawModel) : Type 0 where
  pub counted : IsCounted m
  pub resource_names : first_in resource_name_fault 1 m.resources ≡ None
  pub item_names : first_in item_name_fault 1 m.items ≡ None
  pub capacities : first_in (capacity_fault m.periods) 1 m.resources ≡ None
  pub numbers : first_in (item_numbers_fault m.periods) 1 m.items ≡ None
  pub lines : first_in (item_lines_fault m) 1 m.items ≡ None

abbrev after_repeats : RawModel → Fault
after_repeats m = or_then (numbers_fault m) (lines_fault m)

abbrev after_names : RawModel → Fault
after_names m = or_then (repeat_fault m) (or_then (numbers_fault m) (lines_fault m))

abbrev after_counts : RawModel → Fault
after_counts m = or_then (name_fault m) (or_then (repeat_fault m) (or_then (numbers_fault m) (lines_fault m)))

pub plain : (m : RawModel) → plain_fault m ≡ None → IsChecked m
plain m h =
    let lines = rest_none (numbers_fault m) (lines_fault m) in
    let numbers = first_none (numbers_fault m) (lines_fault m) in
    let h1 : after_counts m ≡ None = rest_none (count_fault m) (after_counts m) h in
    let h2 : after_names m ≡ None = rest_none (name_fault m) (after_names m) h1 in
    let h3 : after_repeats m ≡ None = rest_none (repeat_fault m) (after_repeats m) h2 in
    let names : name_fault m ≡ None = first_none (name_fault m) (after_names m) h1 in
    let resources : Fault = first_in resource_name_fault 1 m.resources in
    let items : Fault = first_in item_name_fault 1 m.items in
    let capacities : Fault = first_in (capacity_fault m.periods) 1 m.resources in
    let item_numbers : Fault = first_in (item_numbers_fault m.periods) 1 m.items in
    record {
      counted = counted m (first_none (count_fault m) (after_counts m) h);
      resource_names = first_none resources items names;
      item_names = rest_none resources items names;
      capacities = first_none capacities item_numbers (numbers h3);
      numbers = rest_none capacities item_numbers (numbers h3);
      lines = lines h3;
    }

item_needs : (m : RawModel) (k : ℕ) (d : RawItem) → IsChecked m → k < length m.items → AreNeeds (length m.items) (map (need_of (item_names m.items)) (slice_index_or m.items k d).needs)
item_needs m k d p less =
    let a = slice_index_or m.items k d in
    let is = item_names m.items in
    let lines = each_none (item_lines_fault m) 1 k d m.items p.lines less in
    let few = get_or-le-sum_by (λ i. length i.needs) m.items k d less in
    subst (λ n. AreNeeds n (map (need_of is) a.needs)) (length-map m.items (λ i. i.name)) (needs is (1 + k) a.needs (first_none _ _ lines) (omega (arith, few, p.counted.lines)))

-- a bound of lots that is there is within its limits and above the least lot
lots : (most : Option ℤ) (p : Place) (k : Key) (least : ℤ) → optional_number_fault (pos 1) (pos MAX_AMOUNT) p k most ≡ None → IsWhole 0 MAX_AMOUNT least → is_ordered least most ≡ true → IfSome (option_map natural most) (λ n. (1 ≤ n) × (n ≤ MAX_AMOUNT) × (natural least ≤ n))
lots None p k least h low apart = tt
lots (Some x) p k least h low apart = let is = number 1 MAX_AMOUNT p k x h in (is.low, is.high, below least x low.is is.is apart)

item : (m : RawModel) (k : ℕ) (d : RawItem) → IsChecked m → first_in ends_fault 1 m.items ≡ None → first_in lots_fault 1 m.items ≡ None → k < length m.items → IsItem (length m.items) (length m.resources) (natural m.periods) (item_of (resource_names m.resources) (item_names m.items) (slice_index_or m.items k d))
item m k d p apart ordered less =
    let a = slice_index_or m.items k d in
    let rs = resource_names m.resources in
    let is = item_names m.items in
    let numbers : item_numbers_fault (pos (natural m.periods)) (1 + k) a ≡ None = ap (λ t. item_numbers_fault t (1 + k) a) (sym p.counted.periods.is) ∙ each_none (item_numbers_fault m.periods) 1 k d m.items p.numbers less in
    let rest = rest_none _ _ numbers in
    let stocks : item_stocks_fault (1 + k) a ≡ None = first_none (item_stocks_fault (1 + k) a) (item_lots_fault (1 + k) a) rest in
    let bounds : item_lots_fault (1 + k) a ≡ None = rest_none (item_stocks_fault (1 + k) a) (item_lots_fault (1 + k) a) rest in
    let ends_ok = rest_none _ _ stocks in
    let lots_ok = rest_none _ _ bounds in
    let lines = each_none (item_lines_fault m) 1 k d m.items p.lines less in
    let opening = number 0 MAX_AMOUNT _ _ a.opening (first_none _ _ stocks) in
    let least = number 0 MAX_AMOUNT _ _ a.end_min (first_none _ _ ends_ok) in
    let lead = number 0 MAX_LEAD _ _ a.lead (first_none _ _ bounds) in
    let least_lot = number 0 MAX_AMOUNT _ _ a.min_lot (first_none _ _ lots_ok) in
    record {
      name = search (holds _ _ _ _ _ (each_none item_name_fault 1 k d m.items p.item_names less));
      lists = lists (natural m.periods) (1 + k) a rs is (first_none _ _ numbers);
      opening = opening.high;
      end_min = least.high;
      end_max = end_max a.end_max _ _ a.end_min a.opening (rest_none _ _ ends_ok) least.high opening.high;
      ends = ends a.end_max _ _ a.end_min a.opening (rest_none _ _ ends_ok) least (holds _ _ _ _ _ (each_none ends_fault 1 k d m.items apart less));
      lead = lead.high;
      min_lot = least_lot.high;
      max_lot = lots a.max_lot _ _ a.min_lot (rest_none _ _ lots_ok) least_lot (holds _ _ _ _ _ (each_none lots_fault 1 k d m.items ordered less));
      needs = item_needs m k d p less;
      uses = subst (λ n. AreUses n (map (use_of rs) a.uses)) (length-map m.resources (λ r. r.name)) (uses rs (1 + k) a.uses (rest_none _ _ lines) (omega (arith, p.counted.resources, length-map m.resources (λ r. r.name))));
    }

resource : (m : RawModel) (k : ℕ) (d : RawResource) → IsChecked m → k < length m.resources → IsResource (natural m.periods) (resource_of (slice_index_or m.resources k d))
resource m k d p less =
    let r = slice_index_or m.resources k d in
    record {
      name = search (holds _ _ _ _ _ (each_none resource_name_fault 1 k d m.resources p.resource_names less));
      capacity = series (natural m.periods) _ _ r.capacity (ap (λ t. capacity_fault t (1 + k) r) (sym p.counted.periods.is) ∙ each_none (capacity_fault m.periods) 1 k d m.resources p.capacities less);
    }

pub blank_item : RawItem
blank_item = record { name = []; demand = []; unit_cost = []; setup_cost = []; hold_cost = []; backlog_cost = None; opening = pos 0; end_min = pos 0; end_max = None; lead = pos 0; min_lot = pos 0; max_lot = None; needs = []; uses = [] }

pub blank_resource : RawResource
blank_resource = record { name = []; capacity = [] }

pub item_read : (m : RawModel) (k : ℕ) → k < length m.items → slice_index_or (problem_of m).items k no_item ≡ item_of (resource_names m.resources) (item_names m.items) (slice_index_or m.items k blank_item)
item_read m k less =
    let f = item_of (resource_names m.resources) (item_names m.items) in
    get_or_default (map f m.items) k no_item (f blank_item) (omega (arith, less, length-map m.items f)) ∙ get_or-map f m.items k blank_item

resource_read : (m : RawModel) (k : ℕ) → k < length m.resources → slice_index_or (problem_of m).resources k no_resource ≡ resource_of (slice_index_or m.resources k blank_resource)
resource_read m k less = get_or_default (map resource_of m.resources) k no_resource (resource_of blank_resource) (omega (arith, less, length-map m.resources resource_of)) ∙ get_or-map resource_of m.resources k blank_resource

pub within : (m : RawModel) → IsChecked m → first_in ends_fault 1 m.items ≡ None → first_in lots_fault 1 m.items ≡ None → IsWithinLimits (problem_of m)
within m p apart ordered =
    let items = length-map m.items (item_of (resource_names m.resources) (item_names m.items)) in
    let resources = length-map m.resources resource_of in
    record {
      some_period = p.counted.periods.low;
      periods = omega (arith, p.counted.periods.high);
      resources = omega (arith, resources, p.counted.resources);
      some_item = omega (arith, items, p.counted.some_item);
      items = omega (arith, items, p.counted.items);
      each_resource = λ k low high.
          let less : k - 1 < length m.resources = omega (arith, low, high, resources) in
          rw (resource_read m (k - 1) less) (resource m (k - 1) blank_resource p less);
      each_item = λ i low high.
          let less : i - 1 < length m.items = omega (arith, low, high, items) in
          rw (item_read m (i - 1) less, items, resources) (item m (i - 1) blank_item p apart ordered less);
    }

pub have_needs : (m : RawModel) → IsChecked m → HaveNeeds (problem_of m)
have_needs m p i low high =
    let items = length-map m.items (item_of (resource_names m.resources) (item_names m.items)) in
    let less : i - 1 < length m.items = omega (arith, low, high, items) in
    rw (item_read m (i - 1) less, items) (item_needs m (i - 1) blank_item p less)

pub few_items : (m : RawModel) → IsChecked m → length (problem_of m).items ≤ MAX_ITEMS
few_items m p = omega (arith, length-map m.items (item_of (resource_names m.resources) (item_names m.items)), p.counted.items)

-- the lines of a draft's items are those of the problem's
same_lines : (names others : List (List ℕ)) (is : List RawItem) → sum_by (λ i. length i.needs) (map (item_of names others) is) ≡ sum_by (λ i. length i.needs) is
same_lines names others [] = refl
same_lines names others (a ∷ is) =
    let count : problem.Item → ℕ = λ i. length i.needs in
    let raw_count : RawItem → ℕ = λ i. length i.needs in
    sum_by-cons count (item_of names others a) (map (item_of names others) is) ∙ ap (λ n. n + sum_by count (map (item_of names others) is)) (length-map a.needs (need_of others)) ∙ ap (λ n. length a.needs + n) (same_lines names others is) ∙ sym (sum_by-cons raw_count a is)

pub few_lines : (m : RawModel) → IsChecked m → sum_by (λ i. length i.needs) (problem_of m).items ≤ MAX_BILL_LINES
few_lines m p = omega (arith, same_lines (resource_names m.resources) (item_names m.items) m.items, p.counted.lines)
