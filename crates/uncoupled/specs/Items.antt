-- What the items of an uncoupled problem are planned with, each by itself.
use Rattle.std.specs.Prelude.{◌≡◌, ℕ, suc, ◌+◌, ◌^◌, ◌≤◌, ◌<◌, List, [], ◌∷◌, length, IfSome, ⊤}
use Rattle.lot_sizing.specs.Problem.{AllAtMost, IsSeries, Problem, item_at, item_count}
use Rattle.lot_sizing.specs.Plan.{cost}
use Rattle.lot_sizing.specs.Best.{IsBest}
use Rattle.lot_sizing.specs.Single.{ArePotentials, position_count, potential}
use Rattle.lot_sizing.specs.Net.{HasRoom, held_left}
use Rattle.lot_sizing.specs.declared.limits.TheConstants.{MAX_AMOUNT}
use Rattle.plan_rules.specs.Held.{AllFit, plan_of}
use Rattle.echelon.specs.Views.{single_in}
use Rattle.lin_rows.specs.declared.prices.Potentials.{Potentials}
use Rattle.echelon_rows.specs.declared.limits.TheConstants.{MAX_STEP}
use Rattle.uncoupled.specs.declared.planning.ItemPlans.{ItemPlans}
use Rattle.uncoupled.specs.declared.planning.PlannedItems.{PlannedItems}
use Rattle.uncoupled.specs.declared.planning.PlannedItems.TheVariants.{Best, NoRoom}

-- the lists of an item have its own costs, its backlog costs where it has some, and potentials that rise over no block by more than it costs
pub record ProvesItem (m : Problem) (i : ℕ) (p : Potentials) : Type 0 where
  pub setup : p.setup.items ≡ (item_at m i).setup_cost
  pub unit : p.unit.items ≡ (item_at m i).unit_cost
  pub hold : p.hold.items ≡ (item_at m i).hold_cost
  pub back : IfSome (item_at m i).backlog_cost (λ costs. p.back.items ≡ costs)
  pub backs : IsSeries m.periods MAX_AMOUNT p.back.items
  pub steps : AllAtMost MAX_STEP p.steps.items
  pub potentials : ArePotentials (single_in m i) p.steps.items

-- no plan makes the item cheaper: the last potential, and the holding of what is left of its opening stock
abbrev pub item_floor : Problem → ℕ → Potentials → ℕ
item_floor m i p = potential p.steps.items (position_count (single_in m i)) + held_left m i

-- the lists of the items from this one on, in their order
abbrev pub ProveFrom : Problem → ℕ → List Potentials → Type 0
ProveFrom m i [] = ⊤
ProveFrom m i (p ∷ rest) = ProvesItem m i p × ProveFrom m (suc i) rest

abbrev pub floors_from : Problem → ℕ → List Potentials → ℕ
floors_from m i [] = 0
floors_from m i (p ∷ rest) = item_floor m i p + floors_from m (suc i) rest

-- a best plan, and lists of each item whose floors add to what it costs
pub record AreBestPlans (m : Problem) (found : ItemPlans) : Type 0 where
  pub fits : AllFit m found.plan
  pub best : IsBest m (plan_of found.plan)
  pub costs : found.cost ≡ cost m (plan_of found.plan)
  pub small : found.cost < 2 ^ 127
  pub one_each : length found.potentials.items ≡ item_count m
  pub prove : ProveFrom m 1 found.potentials.items
  pub floors : found.cost ≡ floors_from m 1 found.potentials.items

-- an item of the problem that has no room for what is left of its opening stock
pub record HasNoRoom (m : Problem) (i : ℕ) : Type 0 where
  pub low : 1 ≤ i
  pub high : i ≤ item_count m
  pub no_room : HasRoom m i → ⊥

-- the first of them
pub record IsFirstWithoutRoom (m : Problem) (i : ℕ) : Type 0 where
  pub item : HasNoRoom m i
  pub before : (j : ℕ) → 1 ≤ j → j < i → HasRoom m j

-- what planning each item by itself comes to
abbrev pub ArePlanned : Problem → PlannedItems → Type 0
ArePlanned m (Best found) = AreBestPlans m found
ArePlanned m (NoRoom i) = IsFirstWithoutRoom m i
