-- The document of a problem is read as the problem.
use Rattle.std.proofs.Common.{◌≡◌, ◌≤◌, ◌∙◌, ℕ, suc, refl, sym, ap, arith, List, [], ◌∷◌, map, Option, Some, None}
use Rattle.std.specs.Prelude.{ℤ, pos, Bool, true, nat_le, ◌&&◌, Result, Ok, option_map, if◌then◌else◌}
use Rattle.toml.specs.Data.{Data, Items, Members, array, no_members}
use Rattle.lot_sizing.specs.declared.Need.{Need}
use Rattle.lot_sizing.specs.declared.Usage.{Usage}
use Rattle.lot_sizing.specs.Problem.{Item, Problem, Resource}
use Rattle.lot_sizing.specs.declared.limits.TheConstants.{MAX_PERIODS}
use Rattle.lot_draft.specs.Raw.{RawModel}
use Rattle.lot_draft.specs.Refusals.{is_from}
use Rattle.lot_draft.specs.declared.fault.ModelFault.{ModelFault}
use Rattle.lot_draft.specs.declared.fault.Place.{Place}
use Rattle.lot_draft.specs.declared.fault.Place.TheVariants as place
use Rattle.lot_draft.specs.declared.fault.Key.{Key}
use Rattle.lot_draft.specs.declared.fault.Key.TheVariants as key
use Rattle.lot_model.specs.Drafted.{item_written, need_written, resource_written, use_written, wholes, written_out}
use Rattle.instance_reader.specs.Reading.{Read, each_read, entries, entry, map_read, where_absent}
use Rattle.instance_reader.specs.Tables.{are_tables, item_read, model_read, need_read, no_tables, resource_read, table_read, tables, use_read}
use Rattle.instance_reader.specs.Written.{item_table, model_table, need_table, number, numbers, resource_table, some_tables, tables_of, use_table, with_key, with_some}
use Rattle.instance_reader.specs.declared.versions.TheConstants.{NEWEST_VERSION}

entries_from : (p : Place) (k : Key) (n : ℕ) (ns : List ℕ) → each_read (entry p k) n (numbers ns) ≡ Ok (wholes ns)
entries_from p k n [] = refl
entries_from p k n (m ∷ ns) = ap (map_read (λ xs. pos m ∷ xs)) (entries_from p k (suc n) ns)

pub entries_back : (p : Place) (k : Key) (ns : List ℕ) → entries p k (numbers ns) ≡ Ok (wholes ns)
entries_back p k ns = entries_from p k 1 ns

are_of : {A : Type 0} (f : A → Members) (xs : List A) → are_tables (tables_of f xs) ≡ true
are_of f [] = refl
are_of f (x ∷ xs) = are_of f xs

each_back : {A B : Type 0} (f : A → Members) (g : A → B) (read : ℕ → Members → Read B) (wrong : ModelFault) → ((n : ℕ) (x : A) → read n (f x) ≡ Ok (g x)) → (n : ℕ) (xs : List A) → each_read (table_read read wrong) n (tables_of f xs) ≡ Ok (map g xs)
each_back f g read wrong h n [] = refl
each_back f g read wrong h n (x ∷ xs) = rw (h n x, each_back f g read wrong h (suc n) xs) refl

need_back : (p : Problem) (i n : ℕ) (need : Need) → need_read i n (need_table p need) ≡ Ok (need_written p need)
need_back p i n need = refl

use_back : (p : Problem) (i n : ℕ) (usage : Usage) → use_read i n (use_table p usage) ≡ Ok (use_written p usage)
use_back p i n usage = refl

pub resource_back : (periods k : ℕ) (r : Resource) → resource_read periods k (resource_table r) ≡ Ok (resource_written r)
resource_back periods k r = rw (entries_back (place.Resource k) key.Capacity r.capacity) refl

needs_back : (p : Problem) (i : ℕ) (needs : List Need) → where_absent (Ok []) (tables (need_read i) (no_tables (place.Item i) key.Needs)) (some_tables (need_table p) needs) ≡ Ok (map (need_written p) needs)
needs_back p i [] = refl
needs_back p i (x ∷ xs) = rw (are_of (need_table p) xs, each_back (need_table p) (need_written p) (need_read i) (no_tables (place.Item i) key.Needs) (need_back p i) 1 (x ∷ xs)) refl

uses_back : (p : Problem) (i : ℕ) (uses : List Usage) → where_absent (Ok []) (tables (use_read i) (no_tables (place.Item i) key.Uses)) (some_tables (use_table p) uses) ≡ Ok (map (use_written p) uses)
uses_back p i [] = refl
uses_back p i (x ∷ xs) = rw (are_of (use_table p) xs, each_back (use_table p) (use_written p) (use_read i) (no_tables (place.Item i) key.Uses) (use_back p i) 1 (x ∷ xs)) refl

abbrev item_with : List ℕ → List ℕ → List ℕ → List ℕ → List ℕ → Option (List ℕ) → ℕ → ℕ → ℕ → ℕ → ℕ → Option ℕ → List Need → List Usage → Item
item_with name demand unit setup hold back opening end_min end_max lead min_lot most needs uses = record {
  name = name;
  demand = demand;
  unit_cost = unit;
  setup_cost = setup;
  hold_cost = hold;
  backlog_cost = back;
  opening = opening;
  end_min = end_min;
  end_max = end_max;
  lead = lead;
  min_lot = min_lot;
  max_lot = most;
  needs = needs;
  uses = uses;
}

item_fields : (p : Problem) (periods i : ℕ) (name demand unit setup hold : List ℕ) (back : Option (List ℕ)) (opening end_min end_max lead min_lot : ℕ) (most : Option ℕ) (needs : List Need) (uses : List Usage) → item_read NEWEST_VERSION periods i (item_table p (item_with name demand unit setup hold back opening end_min end_max lead min_lot most needs uses)) ≡ Ok (item_written p (item_with name demand unit setup hold back opening end_min end_max lead min_lot most needs uses))
item_fields p periods i name demand unit setup hold None opening end_min end_max lead min_lot None [] [] =
    let at = place.Item i in
    rw (entries_back at key.Demand demand, entries_back at key.UnitCost unit, entries_back at key.SetupCost setup, entries_back at key.HoldCost hold) refl
item_fields p periods i name demand unit setup hold None opening end_min end_max lead min_lot None [] (u ∷ us) =
    let at = place.Item i in
    rw (entries_back at key.Demand demand, entries_back at key.UnitCost unit, entries_back at key.SetupCost setup, entries_back at key.HoldCost hold, uses_back p i (u ∷ us)) refl
item_fields p periods i name demand unit setup hold None opening end_min end_max lead min_lot None (x ∷ xs) [] =
    let at = place.Item i in
    rw (entries_back at key.Demand demand, entries_back at key.UnitCost unit, entries_back at key.SetupCost setup, entries_back at key.HoldCost hold, needs_back p i (x ∷ xs)) refl
item_fields p periods i name demand unit setup hold None opening end_min end_max lead min_lot None (x ∷ xs) (u ∷ us) =
    let at = place.Item i in
    rw (entries_back at key.Demand demand, entries_back at key.UnitCost unit, entries_back at key.SetupCost setup, entries_back at key.HoldCost hold, needs_back p i (x ∷ xs), uses_back p i (u ∷ us)) refl
item_fields p periods i name demand unit setup hold None opening end_min end_max lead min_lot (Some most) [] [] =
    let at = place.Item i in
    rw (entries_back at key.Demand demand, entries_back at key.UnitCost unit, entries_back at key.SetupCost setup, entries_back at key.HoldCost hold) refl
item_fields p periods i name demand unit setup hold None opening end_min end_max lead min_lot (Some most) [] (u ∷ us) =
    let at = place.Item i in
    rw (entries_back at key.Demand demand, entries_back at key.UnitCost unit, entries_back at key.SetupCost setup, entries_back at key.HoldCost hold, uses_back p i (u ∷ us)) refl
item_fields p periods i name demand unit setup hold None opening end_min end_max lead min_lot (Some most) (x ∷ xs) [] =
    let at = place.Item i in
    rw (entries_back at key.Demand demand, entries_back at key.UnitCost unit, entries_back at key.SetupCost setup, entries_back at key.HoldCost hold, needs_back p i (x ∷ xs)) refl
item_fields p periods i name demand unit setup hold None opening end_min end_max lead min_lot (Some most) (x ∷ xs) (u ∷ us) =
    let at = place.Item i in
    rw (entries_back at key.Demand demand, entries_back at key.UnitCost unit, entries_back at key.SetupCost setup, entries_back at key.HoldCost hold, needs_back p i (x ∷ xs), uses_back p i (u ∷ us)) refl
item_fields p periods i name demand unit setup hold (Some back) opening end_min end_max lead min_lot None [] [] =
    let at = place.Item i in
    rw (entries_back at key.Demand demand, entries_back at key.UnitCost unit, entries_back at key.SetupCost setup, entries_back at key.HoldCost hold, entries_back at key.BacklogCost back) refl
item_fields p periods i name demand unit setup hold (Some back) opening end_min end_max lead min_lot None [] (u ∷ us) =
    let at = place.Item i in
    rw (entries_back at key.Demand demand, entries_back at key.UnitCost unit, entries_back at key.SetupCost setup, entries_back at key.HoldCost hold, entries_back at key.BacklogCost back, uses_back p i (u ∷ us)) refl
item_fields p periods i name demand unit setup hold (Some back) opening end_min end_max lead min_lot None (x ∷ xs) [] =
    let at = place.Item i in
    rw (entries_back at key.Demand demand, entries_back at key.UnitCost unit, entries_back at key.SetupCost setup, entries_back at key.HoldCost hold, entries_back at key.BacklogCost back, needs_back p i (x ∷ xs)) refl
item_fields p periods i name demand unit setup hold (Some back) opening end_min end_max lead min_lot None (x ∷ xs) (u ∷ us) =
    let at = place.Item i in
    rw (entries_back at key.Demand demand, entries_back at key.UnitCost unit, entries_back at key.SetupCost setup, entries_back at key.HoldCost hold, entries_back at key.BacklogCost back, needs_back p i (x ∷ xs), uses_back p i (u ∷ us)) refl
item_fields p periods i name demand unit setup hold (Some back) opening end_min end_max lead min_lot (Some most) [] [] =
    let at = place.Item i in
    rw (entries_back at key.Demand demand, entries_back at key.UnitCost unit, entries_back at key.SetupCost setup, entries_back at key.HoldCost hold, entries_back at key.BacklogCost back) refl
item_fields p periods i name demand unit setup hold (Some back) opening end_min end_max lead min_lot (Some most) [] (u ∷ us) =
    let at = place.Item i in
    rw (entries_back at key.Demand demand, entries_back at key.UnitCost unit, entries_back at key.SetupCost setup, entries_back at key.HoldCost hold, entries_back at key.BacklogCost back, uses_back p i (u ∷ us)) refl
item_fields p periods i name demand unit setup hold (Some back) opening end_min end_max lead min_lot (Some most) (x ∷ xs) [] =
    let at = place.Item i in
    rw (entries_back at key.Demand demand, entries_back at key.UnitCost unit, entries_back at key.SetupCost setup, entries_back at key.HoldCost hold, entries_back at key.BacklogCost back, needs_back p i (x ∷ xs)) refl
item_fields p periods i name demand unit setup hold (Some back) opening end_min end_max lead min_lot (Some most) (x ∷ xs) (u ∷ us) =
    let at = place.Item i in
    rw (entries_back at key.Demand demand, entries_back at key.UnitCost unit, entries_back at key.SetupCost setup, entries_back at key.HoldCost hold, entries_back at key.BacklogCost back, needs_back p i (x ∷ xs), uses_back p i (u ∷ us)) refl

item_back : (p : Problem) (periods i : ℕ) (a : Item) → item_read NEWEST_VERSION periods i (item_table p a) ≡ Ok (item_written p a)
item_back p periods i a = item_fields p periods i a.name a.demand a.unit_cost a.setup_cost a.hold_cost a.backlog_cost a.opening a.end_min a.end_max a.lead a.min_lot a.max_lot a.needs a.uses

resources_back : (periods : ℕ) (rs : List Resource) → where_absent (Ok []) (tables (resource_read periods) (no_tables place.Root key.Resource)) (some_tables resource_table rs) ≡ Ok (map resource_written rs)
resources_back periods [] = refl
resources_back periods (r ∷ rs) = rw (are_of resource_table rs, each_back resource_table resource_written (resource_read periods) (no_tables place.Root key.Resource) (resource_back periods) 1 (r ∷ rs)) refl

items_back : (p : Problem) (periods : ℕ) (items : List Item) → tables (item_read NEWEST_VERSION periods) (no_tables place.Root key.Item) (array (tables_of (item_table p) items)) ≡ Ok (map (item_written p) items)
items_back p periods items = rw (are_of (item_table p) items, each_back (item_table p) (item_written p) (item_read NEWEST_VERSION periods) (no_tables place.Root key.Item) (item_back p periods) 1 items) refl

-- the table of these periods, resources and items, whose lines name the items and resources of a problem
abbrev model_with : Problem → ℕ → List Resource → List Item → Members
model_with p periods resources items =
    with_some key.Resource (some_tables resource_table resources)
    (with_key key.Item (array (tables_of (item_table p) items))
    (with_key key.Periods (number periods) (with_key key.Version (number NEWEST_VERSION) no_members)))

abbrev read_with : Problem → ℕ → List Resource → List Item → RawModel
read_with p periods resources items = record { periods = pos periods; resources = map resource_written resources; items = map (item_written p) items }

model_fields : (p : Problem) (periods : ℕ) (resources : List Resource) (items : List Item) → is_from (pos 1) (pos MAX_PERIODS) (pos periods) ≡ true → model_read NEWEST_VERSION (model_with p periods resources items) ≡ Ok (read_with p periods resources items)
model_fields p periods [] items some = rw (some, items_back p periods items) refl
model_fields p periods (r ∷ rs) items some = rw (some, resources_back periods (r ∷ rs), items_back p periods items) refl

in_range : (n : ℕ) → 1 ≤ n → n ≤ MAX_PERIODS → is_from (pos 1) (pos MAX_PERIODS) (pos n) ≡ true
in_range n low high = grind (arith, low, high)

pub model_back : (p : Problem) → 1 ≤ p.periods → p.periods ≤ MAX_PERIODS → model_read NEWEST_VERSION (model_table p) ≡ Ok (written_out p)
model_back p low high = model_fields p p.periods p.resources p.items (in_range p.periods low high)
