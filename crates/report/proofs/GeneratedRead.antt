-- The document of a generated model is read as its numbers.
use Rattle.std.proofs.Common.{◌≡◌, ◌≤◌, ◌+◌, ℕ, suc, refl, ap, arith, List, [], ◌∷◌, map, replicate, Option, Some, None}
use Rattle.std.specs.Prelude.{pos, Bool, true, false, Ok, option_map}
use Rattle.toml.specs.Data.{Members, array, no_members, string}
use Rattle.lot_sizing.specs.declared.Need.{Need}
use Rattle.lot_sizing.specs.declared.Usage.{Usage}
use Rattle.lot_draft.specs.Raw.{RawItem, RawModel, RawNeed, RawResource, RawUse}
use Rattle.lot_draft.specs.Refusals.{is_from}
use Rattle.lot_draft.specs.declared.fault.ModelFault.{ModelFault}
use Rattle.lot_draft.specs.declared.fault.Place.{Place}
use Rattle.lot_draft.specs.declared.fault.Place.TheVariants as place
use Rattle.lot_draft.specs.declared.fault.Key.{Key}
use Rattle.lot_draft.specs.declared.fault.Key.TheVariants as key
use Rattle.lot_model.specs.Drafted.{wholes}
use Rattle.instance_reader.specs.Reading.{Read, each_read, entries, entry, map_read}
use Rattle.instance_reader.specs.Tables.{are_tables, item_read, model_read, no_tables, table_read, tables}
use Rattle.instance_reader.specs.Written.{number, number_list, numbers, some_tables, tables_of, with_key, with_some}
use Rattle.instance_reader.specs.declared.versions.TheConstants.{FIRST_VERSION, FIRST_VERSION_PERIODS, NEWEST_VERSION}
use Rattle.report.specs.Draws.{Drawn}
use Rattle.report.specs.Generated.{IsModelSize, capacities, has_next, item_name, item_table, need_if, need_table, needs_of, resource_name, table_with, use_table, uses_of}

entries_from : (p : Place) (k : Key) (n : ℕ) (ns : List ℕ) → each_read (entry p k) n (numbers ns) ≡ Ok (wholes ns)
entries_from p k n [] = refl
entries_from p k n (m ∷ ns) = ap (map_read (λ xs. pos m ∷ xs)) (entries_from p k (suc n) ns)

entries_back : (p : Place) (k : Key) (ns : List ℕ) → entries p k (numbers ns) ≡ Ok (wholes ns)
entries_back p k ns = entries_from p k 1 ns

-- what is read

abbrev pub raw_need : Need → RawNeed
raw_need need = record { item = item_name need.item; quantity = pos need.quantity }

abbrev pub raw_use : Usage → RawUse
raw_use usage = record { resource = resource_name; unit = pos usage.unit; setup = pos usage.setup }

abbrev pub raw_with : ℕ → List ℕ → List ℕ → List ℕ → ℕ → Option ℕ → List Need → List Usage → RawItem
raw_with periods name demand setup hold back needs uses = record {
  name = name;
  demand = wholes demand;
  unit_cost = replicate periods (pos 0);
  setup_cost = wholes setup;
  hold_cost = replicate periods (pos hold);
  backlog_cost = option_map (λ n. replicate periods (pos n)) back;
  opening = pos 0;
  end_min = pos 0;
  end_max = None;
  lead = pos 0;
  min_lot = pos 0;
  max_lot = None;
  needs = map raw_need needs;
  uses = map raw_use uses;
}

abbrev pub raw_of : Bool → ℕ → ℕ → Drawn → RawItem
raw_of coupled items periods d = raw_with periods (item_name d.number) d.demand d.setup_cost d.hold_cost d.backlog_cost (needs_of coupled items d.number) (uses_of coupled)

abbrev pub raw_resource_of : ℕ → ℕ → RawResource
raw_resource_of periods capacity = record { name = resource_name; capacity = replicate periods (pos capacity) }

abbrev pub raw_model_with : Bool → ℕ → ℕ → List Drawn → RawModel
raw_model_with coupled items periods ds = record { periods = pos periods; resources = map (raw_resource_of periods) (capacities coupled items); items = map (raw_of coupled items periods) ds }

-- items

abbrev table_of : List ℕ → List ℕ → List ℕ → ℕ → Option ℕ → List Need → List Usage → Members
table_of name demand setup hold back needs uses =
    with_some key.Uses (some_tables use_table uses)
    (with_some key.Needs (some_tables need_table needs)
    (with_some key.BacklogCost (option_map number back)
    (with_key key.HoldCost (number hold)
    (with_key key.SetupCost (number_list setup)
    (with_key key.Demand (number_list demand)
    (with_key key.Name (string name) no_members))))))

fields : (periods i : ℕ) (name demand setup : List ℕ) (hold : ℕ) (back : Option ℕ) (b : Bool) (next : ℕ) (coupled : Bool) → item_read FIRST_VERSION periods i (table_of name demand setup hold back (need_if b next) (uses_of coupled)) ≡ Ok (raw_with periods name demand setup hold back (need_if b next) (uses_of coupled))
fields periods i name demand setup hold None false next false = let at = place.Item i in rw (entries_back at key.Demand demand, entries_back at key.SetupCost setup) refl
fields periods i name demand setup hold None false next true = let at = place.Item i in rw (entries_back at key.Demand demand, entries_back at key.SetupCost setup) refl
fields periods i name demand setup hold None true next false = let at = place.Item i in rw (entries_back at key.Demand demand, entries_back at key.SetupCost setup) refl
fields periods i name demand setup hold None true next true = let at = place.Item i in rw (entries_back at key.Demand demand, entries_back at key.SetupCost setup) refl
fields periods i name demand setup hold (Some n) false next false = let at = place.Item i in rw (entries_back at key.Demand demand, entries_back at key.SetupCost setup) refl
fields periods i name demand setup hold (Some n) false next true = let at = place.Item i in rw (entries_back at key.Demand demand, entries_back at key.SetupCost setup) refl
fields periods i name demand setup hold (Some n) true next false = let at = place.Item i in rw (entries_back at key.Demand demand, entries_back at key.SetupCost setup) refl
fields periods i name demand setup hold (Some n) true next true = let at = place.Item i in rw (entries_back at key.Demand demand, entries_back at key.SetupCost setup) refl

item_back : (coupled : Bool) (items periods i : ℕ) (d : Drawn) → item_read FIRST_VERSION periods i (item_table coupled items d) ≡ Ok (raw_of coupled items periods d)
item_back coupled items periods i d = fields periods i (item_name d.number) d.demand d.setup_cost d.hold_cost d.backlog_cost (has_next coupled items d.number) (d.number + 1) coupled

are_of : {A : Type 0} (f : A → Members) (xs : List A) → are_tables (tables_of f xs) ≡ true
are_of f [] = refl
are_of f (x ∷ xs) = are_of f xs

each_back : {A B : Type 0} (f : A → Members) (g : A → B) (read : ℕ → Members → Read B) (wrong : ModelFault) → ((n : ℕ) (x : A) → read n (f x) ≡ Ok (g x)) → (n : ℕ) (xs : List A) → each_read (table_read read wrong) n (tables_of f xs) ≡ Ok (map g xs)
each_back f g read wrong h n [] = refl
each_back f g read wrong h n (x ∷ xs) = rw (h n x, each_back f g read wrong h (suc n) xs) refl

items_back : (coupled : Bool) (items periods : ℕ) (ds : List Drawn) → tables (item_read FIRST_VERSION periods) (no_tables place.Root key.Item) (array (tables_of (item_table coupled items) ds)) ≡ Ok (map (raw_of coupled items periods) ds)
items_back coupled items periods ds = rw (are_of (item_table coupled items) ds, each_back (item_table coupled items) (raw_of coupled items periods) (item_read FIRST_VERSION periods) (no_tables place.Root key.Item) (item_back coupled items periods) 1 ds) refl

-- the whole

in_range : (n : ℕ) → 1 ≤ n → n ≤ FIRST_VERSION_PERIODS → is_from (pos 1) (pos FIRST_VERSION_PERIODS) (pos n) ≡ true
in_range n low high = grind (arith, low, high)

model_fields : (coupled : Bool) (items periods : ℕ) (ds : List Drawn) → is_from (pos 1) (pos FIRST_VERSION_PERIODS) (pos periods) ≡ true → model_read NEWEST_VERSION (table_with coupled items periods ds) ≡ Ok (raw_model_with coupled items periods ds)
model_fields false items periods ds some = rw (some, items_back false items periods ds) refl
model_fields true items periods ds some = rw (some, items_back true items periods ds) refl

pub model_back : (coupled : Bool) (items periods : ℕ) (ds : List Drawn) → IsModelSize items periods → model_read NEWEST_VERSION (table_with coupled items periods ds) ≡ Ok (raw_model_with coupled items periods ds)
model_back coupled items periods ds size = model_fields coupled items periods ds (in_range periods size.some_period size.few_periods)
