-- What the tests of a model say, part by part, where they find no fault.
use Rattle.std.proofs.Common.{◌≡◌, ◌≢◌, ◌≤◌, ◌+◌, ℕ, refl, List, length, map, slice_index_or}
use Rattle.std.specs.Prelude.{◌↔◌, ℤ, pos, nat_le, Bool, true, false, not, ◌&&◌, IfSome, IsNone, is_some}
use Rattle.std.specs.Int.Signed.{◌≤ℤ◌}
use Rattle.std.specs.List.{All, AllPairs, list_all, sum_by}
use Rattle.std.proofs.lemmas.List.Folds.{Any-from_list_any, list_any-from_Any}
use Rattle.lot_sizing.specs.Problem.{is_name, is_name_byte}
use Rattle.lot_sizing.specs.declared.limits.TheConstants.{MAX_AMOUNT, MAX_BILL_LINES, MAX_END_STOCK, MAX_ITEMS, MAX_LEAD, MAX_NAME, MAX_PERIODS, MAX_QUANTITY, MAX_RESOURCES}
use Rattle.lot_draft.specs.Raw.{RawItem, RawModel, RawNeed, RawUse}
use Rattle.lot_draft.specs.Refusals.{Fault, backlog_fault, capacity_fault, count_fault, ends_fault, first_in, is_among, is_component, is_from, is_ordered, item_lines_fault, item_lists_fault, item_lots_fault, item_name_fault, item_names, item_numbers_fault, item_repeat, item_stocks_fault, later_fault, lines_fault, lots_fault, name_fault, need_fault, need_names, number_fault, numbers_fault, optional_number_fault, optional_series_fault, or_then, plain_fault, repeat_at, repeat_fault, resource_name_fault, resource_names, resource_repeat, series_fault, unless, use_fault, use_names}
use Rattle.lot_draft.specs.declared.fault.Place.{Place}
use Rattle.lot_draft.specs.declared.fault.Place.TheVariants as place
use Rattle.lot_draft.specs.declared.fault.Key.TheVariants as key
use Rattle.existence.specs.Rules.{HasNumbersInRange, IsComponent, IsFrom, IsItemName, IsProperName, IsResourceName}
use Rattle.existence.proofs.Passing.{Differ, IsGoodList, Passes, all_is, among_is, and_is, by, differ_is, each_is, every_is, from_is, le_is, number_is, optional_number_is, optional_series_is, ordered_is, pair, series_is, then_is, unless_is}

-- ---- counts and names

abbrev AreCounted : RawModel → Type 0
AreCounted m =
    IsFrom 1 MAX_PERIODS m.periods
    × ((length m.resources ≤ MAX_RESOURCES)
    × (((1 ≤ length m.items) × (length m.items ≤ MAX_ITEMS))
    × (sum_by (λ a. length a.needs) m.items ≤ MAX_BILL_LINES)))

counts_are : (m : RawModel) → Passes (count_fault m) ↔ AreCounted m
counts_are m =
    by (then_is (unless (is_from (pos 1) (pos MAX_PERIODS) m.periods) _ _ _ _) _)
    (pair (by (unless_is _ _ _ _ _) (from_is 1 MAX_PERIODS m.periods))
    (by (then_is (unless (nat_le (length m.resources) MAX_RESOURCES) _ _ _ _) _)
    (pair (by (unless_is _ _ _ _ _) (le_is (length m.resources) MAX_RESOURCES))
    (by (then_is (unless (nat_le 1 (length m.items) && nat_le (length m.items) MAX_ITEMS) _ _ _ _) _)
    (pair (by (unless_is _ _ _ _ _) (by (and_is (nat_le 1 (length m.items)) (nat_le (length m.items) MAX_ITEMS)) (pair (le_is 1 (length m.items)) (le_is (length m.items) MAX_ITEMS))))
    (by (unless_is _ _ _ _ _) (le_is (sum_by (λ a. length a.needs) m.items) MAX_BILL_LINES)))))))

name_is : (name : List ℕ) → (is_name name ≡ true) ↔ IsProperName name
name_is name =
    let parts = by (and_is (nat_le 1 (length name)) (nat_le (length name) MAX_NAME && list_all is_name_byte name)) (pair (le_is 1 (length name)) (by (and_is (nat_le (length name) MAX_NAME) (list_all is_name_byte name)) (pair (le_is (length name) MAX_NAME) (all_is is_name_byte name)))) in
    (λ h. record { some = (parts.0 h).0; few = (parts.0 h).1.0; bytes = (parts.0 h).1.1 }, λ is. parts.1 (is.some, (is.few, is.bytes)))

names_are : (m : RawModel) → Passes (name_fault m) ↔ (All (λ r. IsProperName r.name) m.resources × All (λ a. IsProperName a.name) m.items)
names_are m =
    by (then_is (first_in resource_name_fault 1 m.resources) (first_in item_name_fault 1 m.items))
    (pair
    (every_is resource_name_fault (λ r. IsProperName r.name) 1 m.resources (λ k r. by (unless_is (is_name r.name) _ _ _ _) (name_is r.name)))
    (every_is item_name_fault (λ a. IsProperName a.name) 1 m.items (λ k a. by (unless_is (is_name a.name) _ _ _ _) (name_is a.name))))

repeats_are : (m : RawModel) → Passes (repeat_fault m) ↔ (AllPairs (λ r s. r.name ≢ s.name) m.resources × AllPairs (λ a b. a.name ≢ b.name) m.items)
repeats_are m =
    by (then_is (first_in (resource_repeat m.resources) 1 m.resources) (first_in (item_repeat m.items) 1 m.items))
    (pair
    (by (each_is (resource_repeat m.resources) 1 m.resources) (differ_is (λ r. r.name) place.Resource m.resources))
    (by (each_is (item_repeat m.items) 1 m.items) (differ_is (λ a. a.name) place.Item m.items)))

-- ---- lists and numbers

abbrev HasGoodLists : ℤ → RawItem → Type 0
HasGoodLists t a = IsGoodList t a.demand × (IsGoodList t a.unit_cost × (IsGoodList t a.setup_cost × (IsGoodList t a.hold_cost × IfSome a.backlog_cost (IsGoodList t))))

lists_are : (t : ℤ) (i : ℕ) (a : RawItem) → Passes (item_lists_fault t i a) ↔ HasGoodLists t a
lists_are t i a =
    let at = place.Item i in
    by (then_is (series_fault t at key.Demand a.demand) _)
    (pair (series_is t _ _ a.demand)
    (by (then_is (series_fault t at key.UnitCost a.unit_cost) _)
    (pair (series_is t _ _ a.unit_cost)
    (by (then_is (series_fault t at key.SetupCost a.setup_cost) _)
    (pair (series_is t _ _ a.setup_cost)
    (by (then_is (series_fault t at key.HoldCost a.hold_cost) (optional_series_fault t at key.BacklogCost a.backlog_cost))
    (pair (series_is t _ _ a.hold_cost) (optional_series_is t _ _ a.backlog_cost))))))))

stocks_are : (i : ℕ) (a : RawItem) → Passes (item_stocks_fault i a) ↔ (IsFrom 0 MAX_AMOUNT a.opening × (IsFrom 0 MAX_AMOUNT a.end_min × IfSome a.end_max (IsFrom 0 MAX_END_STOCK)))
stocks_are i a =
    let at = place.Item i in
    by (then_is (number_fault (pos 0) (pos MAX_AMOUNT) at key.Opening a.opening) _)
    (pair (number_is 0 MAX_AMOUNT _ _ a.opening)
    (by (then_is (number_fault (pos 0) (pos MAX_AMOUNT) at key.EndMin a.end_min) (optional_number_fault (pos 0) (pos MAX_END_STOCK) at key.EndMax a.end_max))
    (pair (number_is 0 MAX_AMOUNT _ _ a.end_min) (optional_number_is 0 MAX_END_STOCK _ _ a.end_max))))

lot_numbers_are : (i : ℕ) (a : RawItem) → Passes (item_lots_fault i a) ↔ (IsFrom 0 MAX_LEAD a.lead × (IsFrom 0 MAX_AMOUNT a.min_lot × IfSome a.max_lot (IsFrom 1 MAX_AMOUNT)))
lot_numbers_are i a =
    let at = place.Item i in
    by (then_is (number_fault (pos 0) (pos MAX_LEAD) at key.Lead a.lead) _)
    (pair (number_is 0 MAX_LEAD _ _ a.lead)
    (by (then_is (number_fault (pos 0) (pos MAX_AMOUNT) at key.MinLot a.min_lot) (optional_number_fault (pos 1) (pos MAX_AMOUNT) at key.MaxLot a.max_lot))
    (pair (number_is 0 MAX_AMOUNT _ _ a.min_lot) (optional_number_is 1 MAX_AMOUNT _ _ a.max_lot))))

numbers_in_range : (i : ℕ) (a : RawItem) → (Passes (item_stocks_fault i a) × Passes (item_lots_fault i a)) ↔ HasNumbersInRange a
numbers_in_range i a =
    let stocks = stocks_are i a in
    let lots = lot_numbers_are i a in (
      λ both.
          let s = stocks.0 both.0 in
          let l = lots.0 both.1 in
          record { opening = s.0; end_min = s.1.0; end_max = s.1.1; lead = l.0; min_lot = l.1.0; max_lot = l.1.1 },
      λ is. (stocks.1 (is.opening, (is.end_min, is.end_max)), lots.1 (is.lead, (is.min_lot, is.max_lot))),
    )

item_numbers_are : (t : ℤ) (i : ℕ) (a : RawItem) → Passes (item_numbers_fault t i a) ↔ (HasGoodLists t a × HasNumbersInRange a)
item_numbers_are t i a =
    by (then_is (item_lists_fault t i a) (or_then (item_stocks_fault i a) (item_lots_fault i a)))
    (pair (lists_are t i a) (by (then_is (item_stocks_fault i a) (item_lots_fault i a)) (numbers_in_range i a)))

numbers_are : (m : RawModel) → Passes (numbers_fault m) ↔ (All (λ r. IsGoodList m.periods r.capacity) m.resources × All (λ a. HasGoodLists m.periods a × HasNumbersInRange a) m.items)
numbers_are m =
    by (then_is (first_in (capacity_fault m.periods) 1 m.resources) (first_in (item_numbers_fault m.periods) 1 m.items))
    (pair
    (every_is (capacity_fault m.periods) (λ r. IsGoodList m.periods r.capacity) 1 m.resources (λ k r. series_is m.periods _ _ r.capacity))
    (every_is (item_numbers_fault m.periods) (λ a. HasGoodLists m.periods a × HasNumbersInRange a) 1 m.items (item_numbers_are m.periods)))

-- ---- lines

-- three facts of each member, and one of the list that is one of each place
abbrev AreLines : {A : Type 0} → (A → Type 0) → (A → Type 0) → (A → List ℕ) → List A → Type 0
AreLines {A} Known Range name xs = All Known xs × (Differ name xs × All Range xs)

lines_are : {A : Type 0} (f : ℕ → A → Fault) (Known Range : A → Type 0) (name : A → List ℕ) (at : ℕ → Place) (xs : List A) → ((n : ℕ) (a : A) → Passes (f n a) ↔ (Known a × (Passes (repeat_at at (map name xs) n (name a)) × Range a))) → Passes (first_in f 1 xs) ↔ AreLines Known Range name xs
lines_are f Known Range name at xs is =
    let each = each_is f 1 xs in
    let differ = differ_is name at xs in (
      λ h. (
        λ k d less. ((is (1 + k) (slice_index_or xs k d)).0 (each.0 h k d less)).0,
        (differ.0 (λ k d less. ((is (1 + k) (slice_index_or xs k d)).0 (each.0 h k d less)).1.0), λ k d less. ((is (1 + k) (slice_index_or xs k d)).0 (each.0 h k d less)).1.1),
      ),
      λ lines. each.1 (λ k d less. (is (1 + k) (slice_index_or xs k d)).1 (lines.0 k d less, (differ.1 lines.1.0 k d less, lines.1.1 k d less))),
    )

need_is : (m : RawModel) (i : ℕ) (lines : List RawNeed) (n : ℕ) (a : RawNeed) → Passes (need_fault (item_names m.items) i lines n a) ↔ (IsItemName m a.item × (Passes (repeat_at (place.Need i) (need_names lines) n a.item) × IsFrom 1 MAX_QUANTITY a.quantity))
need_is m i lines n a =
    by (then_is (unless (is_among (item_names m.items) a.item) _ _ _ _) _)
    (pair (by (unless_is _ _ _ _ _) (among_is (λ b. b.name) m.items a.item))
    (by (then_is (repeat_at (place.Need i) (need_names lines) n a.item) (number_fault (pos 1) (pos MAX_QUANTITY) (place.Need i n) key.Quantity a.quantity))
    (pair (λ h. h, λ h. h) (number_is 1 MAX_QUANTITY _ _ a.quantity))))

-- the times of a line are in their range
abbrev HasTimes : RawUse → Type 0
HasTimes a = IsFrom 0 MAX_AMOUNT a.unit × IsFrom 0 MAX_AMOUNT a.setup

use_is : (m : RawModel) (i : ℕ) (lines : List RawUse) (n : ℕ) (a : RawUse) → Passes (use_fault (resource_names m.resources) i lines n a) ↔ (IsResourceName m a.resource × (Passes (repeat_at (place.Usage i) (use_names lines) n a.resource) × HasTimes a))
use_is m i lines n a =
    let times = or_then (number_fault (pos 0) (pos MAX_AMOUNT) (place.Usage i n) key.Unit a.unit) (number_fault (pos 0) (pos MAX_AMOUNT) (place.Usage i n) key.Setup a.setup) in
    by (then_is (unless (is_among (resource_names m.resources) a.resource) _ _ _ _) _)
    (pair (by (unless_is _ _ _ _ _) (among_is (λ r. r.name) m.resources a.resource))
    (by (then_is (repeat_at (place.Usage i) (use_names lines) n a.resource) times)
    (pair (λ h. h, λ h. h)
    (by (then_is (number_fault (pos 0) (pos MAX_AMOUNT) (place.Usage i n) key.Unit a.unit) (number_fault (pos 0) (pos MAX_AMOUNT) (place.Usage i n) key.Setup a.setup))
    (pair (number_is 0 MAX_AMOUNT _ _ a.unit) (number_is 0 MAX_AMOUNT _ _ a.setup))))))

abbrev HasGoodLines : RawModel → RawItem → Type 0
HasGoodLines m a =
    AreLines (λ need. IsItemName m need.item) (λ need. IsFrom 1 MAX_QUANTITY need.quantity) (λ need. need.item) a.needs
    × AreLines (λ usage. IsResourceName m usage.resource) HasTimes (λ usage. usage.resource) a.uses

item_lines_are : (m : RawModel) (i : ℕ) (a : RawItem) → Passes (item_lines_fault m i a) ↔ HasGoodLines m a
item_lines_are m i a =
    by (then_is (first_in (need_fault (item_names m.items) i a.needs) 1 a.needs) (first_in (use_fault (resource_names m.resources) i a.uses) 1 a.uses))
    (pair
    (lines_are (need_fault (item_names m.items) i a.needs) (λ need. IsItemName m need.item) (λ need. IsFrom 1 MAX_QUANTITY need.quantity) (λ need. need.item) (place.Need i) a.needs (need_is m i a.needs))
    (lines_are (use_fault (resource_names m.resources) i a.uses) (λ usage. IsResourceName m usage.resource) HasTimes (λ usage. usage.resource) (place.Usage i) a.uses (use_is m i a.uses)))

all_lines_are : (m : RawModel) → Passes (lines_fault m) ↔ All (HasGoodLines m) m.items
all_lines_are m = every_is (item_lines_fault m) (HasGoodLines m) 1 m.items (item_lines_are m)

-- ---- components, ends and lots

component_is : (m : RawModel) (name : List ℕ) → (is_component m.items name ≡ true) ↔ IsComponent m name
component_is m name =
    let test : RawItem → Bool = λ a. is_among (need_names a.needs) name in (
      λ h. let any = Any-from_list_any test m.items h in (any.0, any.1, any.2, any.3, (among_is (λ need. need.item) any.1.needs name).0 any.4),
      λ any. list_any-from_Any test m.items (any.0, any.1, any.2, any.3, (among_is (λ need. need.item) any.1.needs name).1 any.4),
    )

not_both : (a b : Bool) → (not (a && b) ≡ true) ↔ (a ≡ true → b ≡ false)
not_both true true = (λ h. absurd (cc h), λ no. absurd (cc (no refl)))
not_both true false = (λ h i. refl, λ no. refl)
not_both false b = (λ h i. absurd (cc i), λ no. refl)

backlog_is : (m : RawModel) (i : ℕ) (a : RawItem) → Passes (backlog_fault m.items i a) ↔ (IsComponent m a.name → IsNone a.backlog_cost)
backlog_is m i a =
    let both = not_both (is_component m.items a.name) (is_some a.backlog_cost) in
    let component = component_is m a.name in
    by (unless_is (not (is_component m.items a.name && is_some a.backlog_cost)) _ _ _ _)
    (λ h goes. both.0 h (component.1 goes), λ no. both.1 (λ is. no (component.0 is)))

abbrev AreOrdered : RawModel → Type 0
AreOrdered m = All (λ a. IfSome a.end_max (λ most. a.end_min ≤ℤ most)) m.items × All (λ a. IfSome a.max_lot (λ most. a.min_lot ≤ℤ most)) m.items

pub later_is : (m : RawModel) → Passes (later_fault m) ↔ (All (λ a. IsComponent m a.name → IsNone a.backlog_cost) m.items × AreOrdered m)
later_is m =
    by (then_is (first_in (backlog_fault m.items) 1 m.items) _)
    (pair (every_is (backlog_fault m.items) (λ a. IsComponent m a.name → IsNone a.backlog_cost) 1 m.items (backlog_is m))
    (by (then_is (first_in ends_fault 1 m.items) (first_in lots_fault 1 m.items))
    (pair
    (every_is ends_fault (λ a. IfSome a.end_max (λ most. a.end_min ≤ℤ most)) 1 m.items (λ k a. by (unless_is (is_ordered a.end_min a.end_max) _ _ _ _) (ordered_is a.end_min a.end_max)))
    (every_is lots_fault (λ a. IfSome a.max_lot (λ most. a.min_lot ≤ℤ most)) 1 m.items (λ k a. by (unless_is (is_ordered a.min_lot a.max_lot) _ _ _ _) (ordered_is a.min_lot a.max_lot))))))

abbrev AreNamed : RawModel → Type 0
AreNamed m = All (λ r. IsProperName r.name) m.resources × All (λ a. IsProperName a.name) m.items

abbrev AreApart : RawModel → Type 0
AreApart m = AllPairs (λ r s. r.name ≢ s.name) m.resources × AllPairs (λ a b. a.name ≢ b.name) m.items

abbrev AreNumbered : RawModel → Type 0
AreNumbered m = All (λ r. IsGoodList m.periods r.capacity) m.resources × All (λ a. HasGoodLists m.periods a × HasNumbersInRange a) m.items

-- the rules of counts, names, lists, numbers and lines
abbrev pub ArePlain : RawModel → Type 0
ArePlain m = AreCounted m × (AreNamed m × (AreApart m × (AreNumbered m × All (HasGoodLines m) m.items)))

pub plain_is : (m : RawModel) → Passes (plain_fault m) ↔ ArePlain m
plain_is m =
    by (then_is (count_fault m) (or_then (name_fault m) (or_then (repeat_fault m) (or_then (numbers_fault m) (lines_fault m)))))
    (pair (counts_are m)
    (by (then_is (name_fault m) (or_then (repeat_fault m) (or_then (numbers_fault m) (lines_fault m))))
    (pair (names_are m)
    (by (then_is (repeat_fault m) (or_then (numbers_fault m) (lines_fault m)))
    (pair (repeats_are m)
    (by (then_is (numbers_fault m) (lines_fault m))
    (pair (numbers_are m) (all_lines_are m))))))))
