-- What a valid problem has beside its limits: names that differ, lines that name things once, and components without backlog costs.
use Rattle.std.specs.Prelude.{◌≡◌, ◌≢◌, ℕ, ◌≤◌, ◌<◌, length, slice_index_or, IsNone, List}
use Rattle.std.specs.List.{sum_by}
use Rattle.lot_sizing.specs.declared.limits.TheConstants.{MAX_BILL_LINES}
use Rattle.lot_sizing.specs.declared.Need.{Need}
use Rattle.lot_sizing.specs.declared.Usage.{Usage}
use Rattle.lot_sizing.specs.Problem.{EachItem, Problem, item_at, item_count, per_unit, resource_at, resource_count}

-- few enough lines of components, those of all items together
abbrev pub HasFewLines : Problem → Type 0
HasFewLines m = sum_by (λ i. length i.needs) m.items ≤ MAX_BILL_LINES

-- no two items have the same name
abbrev pub HaveOwnNames : Problem → Type 0
HaveOwnNames m = (i j : ℕ) → 1 ≤ i → i < j → j ≤ item_count m → (item_at m i).name ≢ (item_at m j).name

-- no two resources have the same name
abbrev pub HaveOwnResourceNames : Problem → Type 0
HaveOwnResourceNames m = (k l : ℕ) → 1 ≤ k → k < l → l ≤ resource_count m → (resource_at m k).name ≢ (resource_at m l).name

abbrev pub no_need : Need
no_need = record { item = 0; quantity = 0 }

abbrev pub no_usage : Usage
no_usage = record { resource = 0; unit = 0; setup = 0 }

-- no two of the lines are of the same component
abbrev pub NameOnce : List Need → Type 0
NameOnce needs = (n o : ℕ) → n < o → o < length needs → (slice_index_or needs n no_need).item ≢ (slice_index_or needs o no_need).item

-- no two of the lines are of the same resource
abbrev pub UseOnce : List Usage → Type 0
UseOnce uses = (n o : ℕ) → n < o → o < length uses → (slice_index_or uses n no_usage).resource ≢ (slice_index_or uses o no_usage).resource

-- an item that goes into another one has no backlog cost
abbrev pub HaveNoBacklogs : Problem → Type 0
HaveNoBacklogs m = (i j : ℕ) → 1 ≤ i → i ≤ item_count m → 1 ≤ j → j ≤ item_count m → 0 < per_unit m i j → IsNone (item_at m i).backlog_cost

-- all of these
pub record IsValid (m : Problem) : Type 0 where
  pub names : HaveOwnNames m
  pub resource_names : HaveOwnResourceNames m
  pub needs_once : EachItem m (λ i. NameOnce (item_at m i).needs)
  pub uses_once : EachItem m (λ i. UseOnce (item_at m i).uses)
  pub no_backlogs : HaveNoBacklogs m
