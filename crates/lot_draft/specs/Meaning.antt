-- The problem that a model stands for. Names stand for the items and resources that have them.
use Rattle.std.specs.Prelude.{ℕ, suc, ◌+◌, ℤ, pos, negsuc, List, [], ◌∷◌, map, option_map, unwrap_or, ◌≤◌, if◌then◌else◌}
use Rattle.std.specs.Str.{bytes_eq}
use Rattle.lot_sizing.specs.declared.Need.{Need}
use Rattle.lot_sizing.specs.declared.Usage.{Usage}
use Rattle.lot_sizing.specs.Problem.{AreNeeds, Item, Problem, Resource, item_at, item_count}
use Rattle.lot_draft.specs.Raw.{RawItem, RawModel, RawNeed, RawResource, RawUse}
use Rattle.lot_draft.specs.Refusals.{item_names, resource_names}

-- a number that isn't negative
abbrev pub natural : ℤ → ℕ
natural (pos n) = n
natural (negsuc n) = 0

-- the number of a name among these, which are counted from n; 0 where it isn't there
abbrev pub number_named_from : ℕ → List (List ℕ) → List ℕ → ℕ
number_named_from n [] name = 0
number_named_from n (one ∷ names) name = if bytes_eq one name then n else number_named_from (suc n) names name

abbrev pub number_named : List (List ℕ) → List ℕ → ℕ
number_named names name = number_named_from 1 names name

abbrev pub need_of : List (List ℕ) → RawNeed → Need
need_of items a = record { item = number_named items a.item; quantity = natural a.quantity }

abbrev pub use_of : List (List ℕ) → RawUse → Usage
use_of resources a = record { resource = number_named resources a.resource; unit = natural a.unit; setup = natural a.setup }

abbrev pub naturals : List ℤ → List ℕ
naturals xs = map natural xs

-- where the largest end stock is left out, it is the least one and the opening stock together
abbrev pub item_of : List (List ℕ) → List (List ℕ) → RawItem → Item
item_of resources items a = record {
  name = a.name;
  demand = naturals a.demand;
  unit_cost = naturals a.unit_cost;
  setup_cost = naturals a.setup_cost;
  hold_cost = naturals a.hold_cost;
  backlog_cost = option_map naturals a.backlog_cost;
  opening = natural a.opening;
  end_min = natural a.end_min;
  end_max = unwrap_or (option_map natural a.end_max) (natural a.end_min + natural a.opening);
  lead = natural a.lead;
  min_lot = natural a.min_lot;
  max_lot = option_map natural a.max_lot;
  needs = map (need_of items) a.needs;
  uses = map (use_of resources) a.uses;
}

abbrev pub resource_of : RawResource → Resource
resource_of r = record { name = r.name; capacity = naturals r.capacity }

abbrev pub problem_of : RawModel → Problem
problem_of m = record {
  periods = natural m.periods;
  resources = map resource_of m.resources;
  items = map (item_of (resource_names m.resources) (item_names m.items)) m.items;
}

-- the components of each item are items, and one unit takes some of each and not too many
abbrev pub HaveNeeds : Problem → Type 0
HaveNeeds p = (i : ℕ) → 1 ≤ i → i ≤ item_count p → AreNeeds (item_count p) (item_at p i).needs
