-- The first rule that a model breaks, by the order in which the rules stand.
use Rattle.std.specs.Prelude.{ℕ, suc, ◌-◌, ◌^◌, ◌*◌, ℤ, pos, int_le, Bool, true, not, ◌&&◌, nat_le, if◌then◌else◌, List, [], ◌∷◌, length, map, take, Option, Some, None, is_some}
use Rattle.std.specs.List.{list_any, sum_by}
use Rattle.std.specs.Str.{bytes_eq}
use Rattle.lot_sizing.specs.Problem.{is_name}
use Rattle.lot_sizing.specs.declared.limits.TheConstants.{MAX_AMOUNT, MAX_BILL_LINES, MAX_END_STOCK, MAX_ITEMS, MAX_LEAD, MAX_PERIODS, MAX_QUANTITY, MAX_RESOURCES}
use Rattle.lot_draft.specs.Raw.{RawItem, RawModel, RawNeed, RawResource, RawUse}
use Rattle.lot_draft.specs.declared.fault.ModelFault.{ModelFault}
use Rattle.lot_draft.specs.declared.fault.ModelCode.{ModelCode}
use Rattle.lot_draft.specs.declared.fault.ModelCode.TheVariants as code
use Rattle.lot_draft.specs.declared.fault.Place.{Place}
use Rattle.lot_draft.specs.declared.fault.Place.TheVariants as place
use Rattle.lot_draft.specs.declared.fault.Key.{Key}
use Rattle.lot_draft.specs.declared.fault.Key.TheVariants as key

abbrev pub Fault : Type 0
Fault = Option ModelFault

-- the first of two faults
abbrev pub or_then : Fault → Fault → Fault
or_then (Some f) rest = Some f
or_then None rest = rest

-- the fault, where the rule is broken
abbrev pub unless : Bool → ModelCode → Place → Option Key → Option ℕ → Fault
unless holds c p k t = if holds then None else Some (record { code = c; place = p; key = k; period = t })

-- the first fault of the members of a list, counted from n
abbrev pub first_in : {A : Type 0} → (ℕ → A → Fault) → ℕ → List A → Fault
first_in f n [] = None
first_in f n (x ∷ xs) = or_then (f n x) (first_in f (suc n) xs)

-- a number from low to the most
abbrev pub is_from : ℤ → ℤ → ℤ → Bool
is_from low most x = int_le low x && int_le x most

-- so many periods, resources, items and lines of components
abbrev pub count_fault : RawModel → Fault
count_fault m =
    or_then (unless (is_from (pos 1) (pos MAX_PERIODS) m.periods) code.OutOfRange place.Root (Some key.Periods) None)
    (or_then (unless (nat_le (length m.resources) MAX_RESOURCES) code.OutOfRange place.Root (Some key.Resource) None)
    (or_then (unless (nat_le 1 (length m.items) && nat_le (length m.items) MAX_ITEMS) code.OutOfRange place.Root (Some key.Item) None)
    (unless (nat_le (sum_by (λ i. length i.needs) m.items) MAX_BILL_LINES) code.OutOfRange place.Root (Some key.Needs) None)))

abbrev pub resource_name_fault : ℕ → RawResource → Fault
resource_name_fault k r = unless (is_name r.name) code.BadName (place.Resource k) None None

abbrev pub item_name_fault : ℕ → RawItem → Fault
item_name_fault i a = unless (is_name a.name) code.BadName (place.Item i) None None

-- names of resources, then of items
abbrev pub name_fault : RawModel → Fault
name_fault m = or_then (first_in resource_name_fault 1 m.resources) (first_in item_name_fault 1 m.items)

-- a name is among these
abbrev pub is_among : List (List ℕ) → List ℕ → Bool
is_among names name = list_any (λ one. bytes_eq one name) names

-- the name of member n stands in an earlier one
abbrev pub repeat_at : (ℕ → Place) → List (List ℕ) → ℕ → List ℕ → Fault
repeat_at at names n name = unless (not (is_among (take (n - 1) names) name)) code.RepeatedName (at n) None None

abbrev pub resource_names : List RawResource → List (List ℕ)
resource_names rs = map (λ r. r.name) rs

abbrev pub item_names : List RawItem → List (List ℕ)
item_names is = map (λ i. i.name) is

abbrev pub resource_repeat : List RawResource → ℕ → RawResource → Fault
resource_repeat rs k r = repeat_at place.Resource (resource_names rs) k r.name

abbrev pub item_repeat : List RawItem → ℕ → RawItem → Fault
item_repeat is i a = repeat_at place.Item (item_names is) i a.name

-- repeated names of resources, then of items
abbrev pub repeat_fault : RawModel → Fault
repeat_fault m = or_then (first_in (resource_repeat m.resources) 1 m.resources) (first_in (item_repeat m.items) 1 m.items)

-- an entry of a list, not negative and not too large
abbrev pub entry_fault : Place → Key → ℕ → ℤ → Fault
entry_fault p k t x = unless (is_from (pos 0) (pos MAX_AMOUNT) x) code.OutOfRange p (Some k) (Some t)

-- a list with an entry for each period, none negative or too large
abbrev pub series_fault : ℤ → Place → Key → List ℤ → Fault
series_fault periods p k xs =
    or_then (unless (int_le (pos (length xs)) periods && int_le periods (pos (length xs))) code.WrongLength p (Some k) None)
    (first_in (entry_fault p k) 1 xs)

abbrev pub optional_series_fault : ℤ → Place → Key → Option (List ℤ) → Fault
optional_series_fault periods p k None = None
optional_series_fault periods p k (Some xs) = series_fault periods p k xs

-- a number from low to the most
abbrev pub number_fault : ℤ → ℤ → Place → Key → ℤ → Fault
number_fault low most p k x = unless (is_from low most x) code.OutOfRange p (Some k) None

abbrev pub optional_number_fault : ℤ → ℤ → Place → Key → Option ℤ → Fault
optional_number_fault low most p k None = None
optional_number_fault low most p k (Some x) = number_fault low most p k x

-- the lists of an item, key by key
abbrev pub item_lists_fault : ℤ → ℕ → RawItem → Fault
item_lists_fault periods i a =
    let at = place.Item i in
    or_then (series_fault periods at key.Demand a.demand)
    (or_then (series_fault periods at key.UnitCost a.unit_cost)
    (or_then (series_fault periods at key.SetupCost a.setup_cost)
    (or_then (series_fault periods at key.HoldCost a.hold_cost)
    (optional_series_fault periods at key.BacklogCost a.backlog_cost))))

-- its stocks before the first period and at the end of the last one
abbrev pub item_stocks_fault : ℕ → RawItem → Fault
item_stocks_fault i a =
    let at = place.Item i in
    or_then (number_fault (pos 0) (pos MAX_AMOUNT) at key.Opening a.opening)
    (or_then (number_fault (pos 0) (pos MAX_AMOUNT) at key.EndMin a.end_min)
    (optional_number_fault (pos 0) (pos MAX_END_STOCK) at key.EndMax a.end_max))

-- its lead time and the bounds of its lots
abbrev pub item_lots_fault : ℕ → RawItem → Fault
item_lots_fault i a =
    let at = place.Item i in
    or_then (number_fault (pos 0) (pos MAX_LEAD) at key.Lead a.lead)
    (or_then (number_fault (pos 0) (pos MAX_AMOUNT) at key.MinLot a.min_lot)
    (optional_number_fault (pos 1) (pos MAX_AMOUNT) at key.MaxLot a.max_lot))

-- its lists, then its numbers
abbrev pub item_numbers_fault : ℤ → ℕ → RawItem → Fault
item_numbers_fault periods i a =
    or_then (item_lists_fault periods i a) (or_then (item_stocks_fault i a) (item_lots_fault i a))

abbrev pub capacity_fault : ℤ → ℕ → RawResource → Fault
capacity_fault periods k r = series_fault periods (place.Resource k) key.Capacity r.capacity

abbrev pub numbers_fault : RawModel → Fault
numbers_fault m =
    or_then (first_in (capacity_fault m.periods) 1 m.resources)
    (first_in (item_numbers_fault m.periods) 1 m.items)

abbrev pub need_names : List RawNeed → List (List ℕ)
need_names ns = map (λ n. n.item) ns

abbrev pub use_names : List RawUse → List (List ℕ)
use_names us = map (λ u. u.resource) us

-- a line of components: the name is unknown, stands in an earlier line, or the quantity is out of range
abbrev pub need_fault : List (List ℕ) → ℕ → List RawNeed → ℕ → RawNeed → Fault
need_fault names i lines n a =
    or_then (unless (is_among names a.item) code.UnknownName (place.Need i n) None None)
    (or_then (repeat_at (place.Need i) (need_names lines) n a.item)
    (number_fault (pos 1) (pos MAX_QUANTITY) (place.Need i n) key.Quantity a.quantity))

-- a line of resources in the same way
abbrev pub use_fault : List (List ℕ) → ℕ → List RawUse → ℕ → RawUse → Fault
use_fault names i lines n a =
    or_then (unless (is_among names a.resource) code.UnknownName (place.Usage i n) None None)
    (or_then (repeat_at (place.Usage i) (use_names lines) n a.resource)
    (or_then (number_fault (pos 0) (pos MAX_AMOUNT) (place.Usage i n) key.Unit a.unit)
    (number_fault (pos 0) (pos MAX_AMOUNT) (place.Usage i n) key.Setup a.setup)))

-- the lines of an item: its components, then its resources
abbrev pub item_lines_fault : RawModel → ℕ → RawItem → Fault
item_lines_fault m i a =
    or_then (first_in (need_fault (item_names m.items) i a.needs) 1 a.needs)
    (first_in (use_fault (resource_names m.resources) i a.uses) 1 a.uses)

abbrev pub lines_fault : RawModel → Fault
lines_fault m = first_in (item_lines_fault m) 1 m.items

-- the first fault of counts, names, lists, numbers and lines
abbrev pub plain_fault : RawModel → Fault
plain_fault m = or_then (count_fault m) (or_then (name_fault m) (or_then (repeat_fault m) (or_then (numbers_fault m) (lines_fault m))))

-- some item takes one of this name
abbrev pub is_component : List RawItem → List ℕ → Bool
is_component is name = list_any (λ one. is_among (need_names one.needs) name) is

-- a component has no backlog cost
abbrev pub backlog_fault : List RawItem → ℕ → RawItem → Fault
backlog_fault is i a = unless (not (is_component is a.name && is_some a.backlog_cost)) code.BacklogOnComponent (place.Item i) None None

-- the least is at most the largest, where there is one
abbrev pub is_ordered : ℤ → Option ℤ → Bool
is_ordered least None = true
is_ordered least (Some most) = int_le least most

abbrev pub ends_fault : ℕ → RawItem → Fault
ends_fault i a = unless (is_ordered a.end_min a.end_max) code.EndsCrossed (place.Item i) None None

abbrev pub lots_fault : ℕ → RawItem → Fault
lots_fault i a = unless (is_ordered a.min_lot a.max_lot) code.LotsCrossed (place.Item i) None None

-- the first component with a backlog cost, then the first crossed ends, then the first crossed lots
abbrev pub later_fault : RawModel → Fault
later_fault m = or_then (first_in (backlog_fault m.items) 1 m.items) (or_then (first_in ends_fault 1 m.items) (first_in lots_fault 1 m.items))
