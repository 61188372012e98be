-- What the tables of a model are read as, key by key.
use Rattle.std.specs.Prelude.{ℕ, ℤ, pos, ◌&&◌, ◌==◌, Bool, true, List, [], ◌∷◌, Option, Some, None, Ok, Err, is_some, codes, if◌then◌else◌}
use Rattle.toml.specs.Data.{Data, Items, item, no_items, Members, as_array, as_table}
use Rattle.lot_draft.specs.Raw.{RawItem, RawModel, RawNeed, RawResource, RawUse}
use Rattle.lot_draft.specs.Meaning.{natural}
use Rattle.lot_draft.specs.Refusals.{is_from}
use Rattle.lot_draft.specs.declared.fault.ModelFault.{ModelFault}
use Rattle.lot_draft.specs.declared.fault.ModelCode.TheVariants as code
use Rattle.lot_draft.specs.declared.fault.Place.{Place}
use Rattle.lot_draft.specs.declared.fault.Place.TheVariants as place
use Rattle.lot_draft.specs.declared.fault.Key.{Key}
use Rattle.lot_draft.specs.declared.fault.Key.TheVariants as key
use Rattle.lot_sizing.specs.declared.limits.TheConstants.{MAX_PERIODS}
use Rattle.instance_reader.specs.declared.versions.TheConstants.{FIRST_VERSION, FIRST_VERSION_PERIODS}
use Rattle.instance_reader.specs.Document.{has_only, value_at}
use Rattle.instance_reader.specs.Reading.{Read, each_read, fault_at, needed, needed_number, needed_series, needed_text, number_or_zero, optional_number, optional_series, or_fault, series_or_zeros, then_read, unknown_key, where_absent}

-- each element is a table
abbrev pub are_tables : Items → Bool
are_tables no_items = true
are_tables (item v rest) = is_some (as_table v) && are_tables rest

-- the table that an element is
abbrev pub table_in : ModelFault → Data → Read Members
table_in wrong v = or_fault (as_table v) wrong

-- what an element is read as, where it is a table
abbrev pub table_read : {A : Type 0} → (ℕ → Members → Read A) → ModelFault → ℕ → Data → Read A
table_read read wrong n v = then_read (table_in wrong v) (read n)

abbrev pub list_in : ModelFault → Option Items → Read Items
list_in wrong None = Err wrong
list_in wrong (Some xs) = if are_tables xs then Ok xs else Err wrong

-- the array of tables that a value is
abbrev pub table_list : ModelFault → Data → Read Items
table_list wrong v = list_in wrong (as_array v)

-- what the tables of an array are read as
abbrev pub tables_in : {A : Type 0} → (ℕ → Members → Read A) → ModelFault → Items → Read (List A)
tables_in read wrong xs = each_read (table_read read wrong) 1 xs

abbrev pub tables : {A : Type 0} → (ℕ → Members → Read A) → ModelFault → Data → Read (List A)
tables read wrong v = then_read (table_list wrong v) (tables_in read wrong)

-- an array under a key is no array of tables
abbrev pub no_tables : Place → Key → ModelFault
no_tables p k = fault_at code.WrongKind p k

abbrev pub root_keys : List (List ℕ)
root_keys = codes "version" ∷ codes "periods" ∷ codes "resource" ∷ codes "item" ∷ []

abbrev pub resource_keys : List (List ℕ)
resource_keys = codes "name" ∷ codes "capacity" ∷ []

abbrev pub first_item_keys : List (List ℕ)
first_item_keys = codes "name" ∷ codes "demand" ∷ codes "unit_cost" ∷ codes "setup_cost" ∷ codes "hold_cost" ∷ codes "backlog_cost" ∷ codes "opening" ∷ codes "end_min" ∷ codes "end_max" ∷ codes "needs" ∷ codes "uses" ∷ []

abbrev pub later_item_keys : List (List ℕ)
later_item_keys = codes "name" ∷ codes "demand" ∷ codes "unit_cost" ∷ codes "setup_cost" ∷ codes "hold_cost" ∷ codes "backlog_cost" ∷ codes "opening" ∷ codes "end_min" ∷ codes "end_max" ∷ codes "lead" ∷ codes "min_lot" ∷ codes "max_lot" ∷ codes "needs" ∷ codes "uses" ∷ []

-- the keys of an item, by the version of the model
abbrev pub item_keys : ℕ → List (List ℕ)
item_keys version = if version == FIRST_VERSION then first_item_keys else later_item_keys

abbrev pub need_keys : List (List ℕ)
need_keys = codes "item" ∷ codes "quantity" ∷ []

abbrev pub use_keys : List (List ℕ)
use_keys = codes "resource" ∷ codes "unit" ∷ codes "setup" ∷ []

-- a line of components
abbrev pub need_read : ℕ → ℕ → Members → Read RawNeed
need_read i n t =
    let at = place.Need i n in
    if has_only need_keys t
    then then_read (needed_text at key.Item t) (λ name.
    then_read (needed_number at key.Quantity t) (λ quantity.
    Ok record { item = name; quantity = quantity }))
    else Err (unknown_key at)

-- a line of resources
abbrev pub use_read : ℕ → ℕ → Members → Read RawUse
use_read i n t =
    let at = place.Usage i n in
    if has_only use_keys t
    then then_read (needed_text at key.Resource t) (λ name.
    then_read (number_or_zero at key.Unit t) (λ unit.
    then_read (number_or_zero at key.Setup t) (λ setup.
    Ok record { resource = name; unit = unit; setup = setup })))
    else Err (unknown_key at)

abbrev pub needs_read : ℕ → Members → Read (List RawNeed)
needs_read i t = where_absent (Ok []) (tables (need_read i) (no_tables (place.Item i) key.Needs)) (value_at key.Needs t)

abbrev pub uses_read : ℕ → Members → Read (List RawUse)
uses_read i t = where_absent (Ok []) (tables (use_read i) (no_tables (place.Item i) key.Uses)) (value_at key.Uses t)

abbrev pub resource_read : ℕ → ℕ → Members → Read RawResource
resource_read periods k t =
    let at = place.Resource k in
    if has_only resource_keys t
    then then_read (needed_text at key.Name t) (λ name.
    then_read (needed_series periods at key.Capacity t) (λ capacity.
    Ok record { name = name; capacity = capacity }))
    else Err (unknown_key at)

abbrev pub item_read : ℕ → ℕ → ℕ → Members → Read RawItem
item_read version periods i t =
    let at = place.Item i in
    if has_only (item_keys version) t
    then then_read (needed_text at key.Name t) (λ name.
    then_read (needed_series periods at key.Demand t) (λ demand.
    then_read (series_or_zeros periods at key.UnitCost t) (λ unit_cost.
    then_read (series_or_zeros periods at key.SetupCost t) (λ setup_cost.
    then_read (series_or_zeros periods at key.HoldCost t) (λ hold_cost.
    then_read (optional_series periods at key.BacklogCost t) (λ backlog_cost.
    then_read (number_or_zero at key.Opening t) (λ opening.
    then_read (number_or_zero at key.EndMin t) (λ end_min.
    then_read (optional_number at key.EndMax t) (λ end_max.
    then_read (number_or_zero at key.Lead t) (λ lead.
    then_read (number_or_zero at key.MinLot t) (λ min_lot.
    then_read (optional_number at key.MaxLot t) (λ max_lot.
    then_read (needs_read i t) (λ needs.
    then_read (uses_read i t) (λ uses.
    Ok record {
      name = name;
      demand = demand;
      unit_cost = unit_cost;
      setup_cost = setup_cost;
      hold_cost = hold_cost;
      backlog_cost = backlog_cost;
      opening = opening;
      end_min = end_min;
      end_max = end_max;
      lead = lead;
      min_lot = min_lot;
      max_lot = max_lot;
      needs = needs;
      uses = uses;
    }))))))))))))))
    else Err (unknown_key at)

abbrev pub version_in : ℕ → ℤ → Read ℕ
version_in newest x = if is_from (pos FIRST_VERSION) (pos newest) x then Ok (natural x) else Err (fault_at code.Version place.Root key.Version)

-- a version from the first to the newest one that is read
abbrev pub version_read : ℕ → Members → Read ℕ
version_read newest t = then_read (needed_number place.Root key.Version t) (version_in newest)

-- the most periods of a model, by its version
abbrev pub most_periods : ℕ → ℕ
most_periods version = if version == FIRST_VERSION then FIRST_VERSION_PERIODS else MAX_PERIODS

abbrev pub periods_in : ℕ → ℤ → Read ℕ
periods_in version x = if is_from (pos 1) (pos (most_periods version)) x then Ok (natural x) else Err (fault_at code.OutOfRange place.Root key.Periods)

abbrev pub periods_read : ℕ → Members → Read ℕ
periods_read version t = then_read (needed_number place.Root key.Periods t) (periods_in version)

abbrev pub resources_read : ℕ → Members → Read (List RawResource)
resources_read periods t = where_absent (Ok []) (tables (resource_read periods) (no_tables place.Root key.Resource)) (value_at key.Resource t)

abbrev pub items_read : ℕ → ℕ → Members → Read (List RawItem)
items_read version periods t = needed place.Root key.Item (tables (item_read version periods) (no_tables place.Root key.Item)) t

-- the model of a document of a version
abbrev pub body_read : ℕ → Members → Read RawModel
body_read version t =
    then_read (periods_read version t) (λ periods.
    then_read (resources_read periods t) (λ resources.
    then_read (items_read version periods t) (λ items.
    Ok record { periods = pos periods; resources = resources; items = items })))

-- the model of a document whose version is at most the newest
abbrev pub model_read : ℕ → Members → Read RawModel
model_read newest t =
    then_read (version_read newest t) (λ version.
    if has_only root_keys t then body_read version t else Err (unknown_key place.Root))
