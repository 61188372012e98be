-- The model of a seed: as a document, and as the problem that it means.
use Rattle.std.specs.Prelude.{ℕ, ◌+◌, ◌*◌, ◌≤◌, ◌&&◌, not, nat_le, Bool, if◌then◌else◌, List, [], ◌∷◌, ◌++◌, map, replicate, None, option_map, codes, decimal}
use Rattle.toml.specs.Data.{Members, array, no_members, string}
use Rattle.lot_sizing.specs.declared.limits.TheConstants.{MAX_ITEMS}
use Rattle.lot_sizing.specs.declared.Need.{Need}
use Rattle.lot_sizing.specs.declared.Usage.{Usage}
use Rattle.lot_sizing.specs.Problem.{Item, Problem, Resource}
use Rattle.lot_draft.specs.declared.fault.Key.TheVariants as key
use Rattle.instance_reader.specs.Written.{number, number_list, some_tables, tables_of, with_key, with_some}
use Rattle.instance_reader.specs.declared.versions.TheConstants.{FIRST_VERSION, FIRST_VERSION_PERIODS}
use Rattle.report.specs.Draws.{Drawn, drawn, is_first}

-- a model may have so many items and periods
pub record IsModelSize (items periods : ℕ) : Type 0 where
  pub some_item : 1 ≤ items
  pub few_items : items ≤ MAX_ITEMS
  pub some_period : 1 ≤ periods
  pub few_periods : periods ≤ FIRST_VERSION_PERIODS

abbrev pub item_name : ℕ → List ℕ
item_name i = codes "i" ++ decimal i

abbrev pub resource_name : List ℕ
resource_name = codes "r1"

-- the next item is of the same group of three
abbrev pub has_next : Bool → ℕ → ℕ → Bool
has_next coupled items i = coupled && (nat_le (i + 1) items && not (is_first (i + 1)))

-- one unit of a component, if there is one
abbrev pub need_if : Bool → ℕ → List Need
need_if needed component = if needed then record { item = component; quantity = 1 } ∷ [] else []

-- in a coupled model one unit takes one of the next item of its group
abbrev pub needs_of : Bool → ℕ → ℕ → List Need
needs_of coupled items i = need_if (has_next coupled items i) (i + 1)

-- and time on the resource
abbrev pub uses_of : Bool → List Usage
uses_of coupled = if coupled then record { resource = 1; unit = 1; setup = 5 } ∷ [] else []

-- the time of the resource in each period
abbrev pub capacity_of : ℕ → ℕ
capacity_of items = 80 * items

-- the document: keys stand in their order

abbrev pub need_table : Need → Members
need_table need = with_key key.Quantity (number need.quantity) (with_key key.Item (string (item_name need.item)) no_members)

abbrev pub use_table : Usage → Members
use_table usage =
    with_key key.Setup (number usage.setup)
    (with_key key.Unit (number usage.unit)
    (with_key key.Resource (string resource_name) no_members))

abbrev pub item_table : Bool → ℕ → Drawn → Members
item_table coupled items d =
    with_some key.Uses (some_tables use_table (uses_of coupled))
    (with_some key.Needs (some_tables need_table (needs_of coupled items d.number))
    (with_some key.BacklogCost (option_map number d.backlog_cost)
    (with_key key.HoldCost (number d.hold_cost)
    (with_key key.SetupCost (number_list d.setup_cost)
    (with_key key.Demand (number_list d.demand)
    (with_key key.Name (string (item_name d.number)) no_members))))))

-- the capacities of the resources
abbrev pub capacities : Bool → ℕ → List ℕ
capacities coupled items = if coupled then capacity_of items ∷ [] else []

abbrev pub resource_table : ℕ → Members
resource_table capacity = with_key key.Capacity (number capacity) (with_key key.Name (string resource_name) no_members)

-- the model with these items
abbrev pub table_with : Bool → ℕ → ℕ → List Drawn → Members
table_with coupled items periods ds =
    with_some key.Resource (some_tables resource_table (capacities coupled items))
    (with_key key.Item (array (tables_of (item_table coupled items) ds))
    (with_key key.Periods (number periods) (with_key key.Version (number FIRST_VERSION) no_members)))

-- the document of a seed's model
abbrev pub generated_table : ℕ → ℕ → ℕ → Bool → Members
generated_table seed items periods coupled = table_with coupled items periods (drawn seed items periods coupled)

-- the problem: what the document leaves out is 0, and what it says once holds in every period

abbrev pub item_of : Bool → ℕ → ℕ → Drawn → Item
item_of coupled items periods d = record {
  name = item_name d.number;
  demand = d.demand;
  unit_cost = replicate periods 0;
  setup_cost = d.setup_cost;
  hold_cost = replicate periods d.hold_cost;
  backlog_cost = option_map (replicate periods) d.backlog_cost;
  opening = 0;
  end_min = 0;
  end_max = 0;
  lead = 0;
  min_lot = 0;
  max_lot = None;
  needs = needs_of coupled items d.number;
  uses = uses_of coupled;
}

abbrev pub resource_of : ℕ → ℕ → Resource
resource_of periods capacity = record { name = resource_name; capacity = replicate periods capacity }

-- the problem with these items
abbrev pub problem_with : Bool → ℕ → ℕ → List Drawn → Problem
problem_with coupled items periods ds = record {
  periods = periods;
  resources = map (resource_of periods) (capacities coupled items);
  items = map (item_of coupled items periods) ds;
}

-- the problem of a seed's model
abbrev pub generated : ℕ → ℕ → ℕ → Bool → Problem
generated seed items periods coupled = problem_with coupled items periods (drawn seed items periods coupled)
