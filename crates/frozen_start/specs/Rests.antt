-- The problem of the later periods after a frozen start, and how plans of both go together.
use Rattle.std.specs.Prelude.{◌≡◌, ℕ, suc, ◌+◌, ◌-◌, ◌≤◌, ◌<◌, List, [], ◌∷◌, length, drop, map, option_map, if◌then◌else◌, nat_le}
use Rattle.lot_sizing.specs.Problem.{EachItem, Item, Problem, Resource, item_at, resource_at}
use Rattle.lot_sizing.specs.Plan.{Plan, Table}
use Rattle.lot_sizing.specs.Least.{least_backlog, least_stock}

-- a list with so much more at its front
abbrev pub more_in_front : ℕ → List ℕ → List ℕ
more_in_front owed [] = owed ∷ []
more_in_front owed (x ∷ xs) = (x + owed) ∷ xs

-- the item in the later periods: it begins with what is left, and what is owed is asked for at once
pub record IsRestItem (first left owed : ℕ) (a b : Item) : Type 0 where
  pub name : b.name ≡ a.name
  pub demand : b.demand ≡ more_in_front owed (drop first a.demand)
  pub unit_cost : b.unit_cost ≡ drop first a.unit_cost
  pub setup_cost : b.setup_cost ≡ drop first a.setup_cost
  pub hold_cost : b.hold_cost ≡ drop first a.hold_cost
  pub backlog_cost : b.backlog_cost ≡ option_map (drop first) a.backlog_cost
  pub opening : b.opening ≡ left
  pub end_min : b.end_min ≡ a.end_min
  pub end_max : b.end_max ≡ a.end_max
  pub lead : b.lead ≡ a.lead
  pub min_lot : b.min_lot ≡ a.min_lot
  pub max_lot : b.max_lot ≡ a.max_lot
  pub needs : b.needs ≡ a.needs
  pub uses : b.uses ≡ a.uses

pub record IsRestResource (first : ℕ) (a b : Resource) : Type 0 where
  pub name : b.name ≡ a.name
  pub capacity : b.capacity ≡ drop first a.capacity

-- the problem of the later periods, after the quantities of a plan in the first ones
pub record IsRestOf (m : Problem) (p : Plan) (first : ℕ) (rest : Problem) : Type 0 where
  pub some_later : first < m.periods
  pub periods : rest.periods ≡ m.periods - first
  pub resource_count : length rest.resources ≡ length m.resources
  pub item_count : length rest.items ≡ length m.items
  pub resources : (k : ℕ) → 1 ≤ k → k ≤ length m.resources → IsRestResource first (resource_at m k) (resource_at rest k)
  pub items : EachItem m (λ i. IsRestItem first (least_stock m p.make i first) (least_backlog m p.make i first) (item_at m i) (item_at rest i))

-- the item in the later periods, as a value
abbrev pub rest_item : ℕ → ℕ → ℕ → Item → Item
rest_item first left owed a = record {
  name = a.name;
  demand = more_in_front owed (drop first a.demand);
  unit_cost = drop first a.unit_cost;
  setup_cost = drop first a.setup_cost;
  hold_cost = drop first a.hold_cost;
  backlog_cost = option_map (drop first) a.backlog_cost;
  opening = left;
  end_min = a.end_min;
  end_max = a.end_max;
  lead = a.lead;
  min_lot = a.min_lot;
  max_lot = a.max_lot;
  needs = a.needs;
  uses = a.uses;
}

-- the items in the later periods after these quantities; the first one is item n
abbrev pub rest_items : Problem → Table → ℕ → ℕ → List Item → List Item
rest_items m make first n [] = []
rest_items m make first n (a ∷ more) = rest_item first (least_stock m make n first) (least_backlog m make n first) a ∷ rest_items m make first (suc n) more

abbrev pub rest_resource : ℕ → Resource → Resource
rest_resource first r = record { name = r.name; capacity = drop first r.capacity }

-- the problem of the later periods after these quantities, as a value
abbrev pub rest_after : Problem → Table → ℕ → Problem
rest_after m make first = record { periods = m.periods - first; resources = map (rest_resource first) m.resources; items = rest_items m make first 1 m.items }

abbrev pub rest_of : Problem → Plan → ℕ → Problem
rest_of m p first = rest_after m p.make first

-- one table in the first periods and then another
abbrev pub one_then : ℕ → Table → Table → Table
one_then first a b i t = if nat_le t first then a i t else b i (t - first)

-- the start of one plan, with the least stocks and backlogs, and then a plan of the later periods
abbrev pub join : Problem → Plan → ℕ → Plan → Plan
join m p first q = record {
  make = one_then first p.make q.make;
  setup = one_then first p.setup q.setup;
  stock = one_then first (least_stock m p.make) q.stock;
  backlog = one_then first (least_backlog m p.make) q.backlog;
}

-- a table from a period on
abbrev pub later : ℕ → Table → Table
later first a i t = a i (first + t)

-- the later periods of a plan, with the least stocks and backlogs of its quantities
abbrev pub cut : Problem → Plan → ℕ → Plan
cut m q first = record {
  make = later first q.make;
  setup = later first q.setup;
  stock = later first (least_stock m q.make);
  backlog = later first (least_backlog m q.make);
}
