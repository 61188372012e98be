-- The document that a problem is written as. Members stand in the order of their keys.
use Rattle.std.specs.Prelude.{◌≡◌, ℕ, pos, List, [], ◌∷◌, map, Option, Some, None, codes, option_map}
use Rattle.std.specs.Ordering.{nat_cmp, match_ordering}
use Rattle.std.specs.Cmp.Lexicographic.{slice_cmp}
use Rattle.toml.specs.Data.{Data, array, integer, string, table, Items, no_items, item, Members, no_members, member}
use Rattle.lot_sizing.specs.declared.Need.{Need}
use Rattle.lot_sizing.specs.declared.Usage.{Usage}
use Rattle.lot_sizing.specs.Problem.{Item, Problem, Resource, item_at, resource_at}
use Rattle.lot_draft.specs.Faults.{key_text}
use Rattle.lot_draft.specs.declared.fault.Key.{Key}
use Rattle.lot_draft.specs.declared.fault.Key.TheVariants as key
use Rattle.instance_reader.specs.Document.{document_of}
use Rattle.instance_reader.specs.declared.versions.TheConstants.{NEWEST_VERSION}

-- the members with d at this key
abbrev pub with_member : List ℕ → Data → Members → Members
with_member k d no_members = member k d no_members
with_member k d (member l e ms) = match_ordering (slice_cmp nat_cmp k l) (member k d (member l e ms)) (member l d ms) (member l e (with_member k d ms))

abbrev pub with_key : Key → Data → Members → Members
with_key k d ms = with_member (key_text k) d ms

-- the same where there is something
abbrev pub with_some : Key → Option Data → Members → Members
with_some k None ms = ms
with_some k (Some d) ms = with_key k d ms

abbrev pub number : ℕ → Data
number n = integer (pos n)

abbrev pub numbers : List ℕ → Items
numbers [] = no_items
numbers (n ∷ ns) = item (number n) (numbers ns)

abbrev pub number_list : List ℕ → Data
number_list ns = array (numbers ns)

-- a table for each member of a list
abbrev pub tables_of : {A : Type 0} → (A → Members) → List A → Items
tables_of f [] = no_items
tables_of f (x ∷ xs) = item (table (f x)) (tables_of f xs)

-- an array of tables, and none where there are none
abbrev pub some_tables : {A : Type 0} → (A → Members) → List A → Option Data
some_tables f [] = None
some_tables f (x ∷ xs) = Some (array (tables_of f (x ∷ xs)))

abbrev pub need_table : Problem → Need → Members
need_table p need = with_key key.Quantity (number need.quantity) (with_key key.Item (string (item_at p need.item).name) no_members)

abbrev pub use_table : Problem → Usage → Members
use_table p usage =
    with_key key.Setup (number usage.setup)
    (with_key key.Unit (number usage.unit)
    (with_key key.Resource (string (resource_at p usage.resource).name) no_members))

abbrev pub resource_table : Resource → Members
resource_table r = with_key key.Capacity (number_list r.capacity) (with_key key.Name (string r.name) no_members)

-- the members with the keys that each item has with a single number
abbrev pub with_numbers : Item → Members → Members
with_numbers a ms =
    with_key key.MinLot (number a.min_lot)
    (with_key key.Lead (number a.lead)
    (with_key key.EndMax (number a.end_max)
    (with_key key.EndMin (number a.end_min)
    (with_key key.Opening (number a.opening) ms))))

-- the keys that each item has
abbrev pub plain_table : Item → Members
plain_table a =
    with_numbers a
    (with_key key.HoldCost (number_list a.hold_cost)
    (with_key key.SetupCost (number_list a.setup_cost)
    (with_key key.UnitCost (number_list a.unit_cost)
    (with_key key.Demand (number_list a.demand)
    (with_key key.Name (string a.name) no_members)))))

abbrev pub item_table : Problem → Item → Members
item_table p a =
    with_some key.Uses (some_tables (use_table p) a.uses)
    (with_some key.Needs (some_tables (need_table p) a.needs)
    (with_some key.MaxLot (option_map number a.max_lot)
    (with_some key.BacklogCost (option_map number_list a.backlog_cost) (plain_table a))))

abbrev pub model_table : Problem → Members
model_table p =
    with_some key.Resource (some_tables resource_table p.resources)
    (with_key key.Item (array (tables_of (item_table p) p.items))
    (with_key key.Periods (number p.periods) (with_key key.Version (number NEWEST_VERSION) no_members)))

-- the bytes are a text of the problem: as a document they are its table
abbrev pub IsModelText : Problem → List ℕ → Type 0
IsModelText p bytes = document_of bytes ≡ Some (model_table p)
