-- A plan, whether it is feasible, and what it costs: plain sums over items and periods.
use Rattle.std.specs.Prelude.{◌≡◌, ℕ, zero, suc, ◌+◌, ◌-◌, ◌*◌, ◌≤◌, ◌<◌, IsNone, IfSome, if◌then◌else◌, nat_le}
use Rattle.lot_sizing.specs.Sums.{sum_to}
use Rattle.lot_sizing.specs.Problem.{Problem, item_at, item_count, resource_count, demand, unit_cost, setup_cost, hold_cost, backlog_cost, capacity, per_unit, unit_time, setup_time}

-- a number for each item and period
abbrev pub Table : Type 0
Table = ℕ → ℕ → ℕ

pub record Plan : Type 0 where
  pub make : Table
  pub setup : Table
  pub stock : Table
  pub backlog : Table

-- the stock at the end of a period, and before the first one the opening stock
abbrev pub stock_after : Problem → Plan → ℕ → ℕ → ℕ
stock_after m p i zero = (item_at m i).opening
stock_after m p i (suc t) = p.stock i (suc t)

-- the backlog at the end of a period, and before the first one none
abbrev pub backlog_after : Plan → ℕ → ℕ → ℕ
backlog_after p i zero = 0
backlog_after p i (suc t) = p.backlog i (suc t)

-- what arrives of an item in a period: the lot that was started the lead time before, and nothing where that is before the first period
abbrev pub arriving : Problem → Table → ℕ → ℕ → ℕ
arriving m make i t = if nat_le t (item_at m i).lead then 0 else make i (t - (item_at m i).lead)

-- what goes into other items, when lots of these are started
abbrev pub used_up : Problem → Table → ℕ → ℕ → ℕ
used_up m make i t = sum_to (item_count m) (λ j. per_unit m i j * make j t)

-- what was there and what arrives serves the demand, goes into other items or stays
abbrev pub IsBalanced : Problem → Plan → ℕ → ℕ → Type 0
IsBalanced m p i t = stock_after m p i (t - 1) + arriving m p.make i t + p.backlog i t ≡ demand m i t + used_up m p.make i t + p.stock i t + backlog_after p i (t - 1)

-- the time that a resource is used in a period
abbrev pub time_used : Problem → Plan → ℕ → ℕ → ℕ
time_used m p k t = sum_to (item_count m) (λ i. unit_time m i k * p.make i t + setup_time m i k * p.setup i t)

-- at each place of so many rows and columns
abbrev pub Each : ℕ → ℕ → (ℕ → ℕ → Type 0) → Type 0
Each rows columns R = (i t : ℕ) → 1 ≤ i → i ≤ rows → 1 ≤ t → t ≤ columns → R i t

-- for each item and period
abbrev pub EachCell : Problem → (ℕ → ℕ → Type 0) → Type 0
EachCell m R = Each (item_count m) m.periods R

-- a setup is made or not
abbrev pub IsSetup : Plan → ℕ → ℕ → Type 0
IsSetup p i t = p.setup i t ≤ 1

-- nothing is made without a setup
abbrev pub IsMadeWithSetup : Plan → ℕ → ℕ → Type 0
IsMadeWithSetup p i t = 0 < p.make i t → p.setup i t ≡ 1

-- a resource has the time
abbrev pub IsWithinCapacity : Problem → Plan → ℕ → ℕ → Type 0
IsWithinCapacity m p k t = time_used m p k t ≤ capacity m k t

-- the last stock is within the item's bounds
abbrev pub IsEndStock : Problem → Plan → ℕ → Type 0
IsEndStock m p i = ((item_at m i).end_min ≤ p.stock i m.periods) × (p.stock i m.periods ≤ (item_at m i).end_max)

-- a backlog stands only where the item has a price for it, and not in the end
abbrev pub IsBacklogAllowed : Problem → Plan → ℕ → ℕ → Type 0
IsBacklogAllowed m p i t = (IsNone (item_at m i).backlog_cost → p.backlog i t ≡ 0) × (t ≡ m.periods → p.backlog i t ≡ 0)

-- a setup makes at least the least lot, and no period more than the largest
abbrev pub IsLot : Problem → Plan → ℕ → ℕ → Type 0
IsLot m p i t = ((item_at m i).min_lot * p.setup i t ≤ p.make i t) × IfSome (item_at m i).max_lot (λ most. p.make i t ≤ most)

-- no lot is started that would arrive after the last period
abbrev pub IsInHorizon : Problem → Plan → ℕ → ℕ → Type 0
IsInHorizon m p i t = m.periods < t + (item_at m i).lead → p.make i t ≡ 0

pub record IsFeasible (m : Problem) (p : Plan) : Type 0 where
  pub balance : EachCell m (IsBalanced m p)
  pub setup : EachCell m (IsSetup p)
  pub made : EachCell m (IsMadeWithSetup p)
  pub capacity : Each (resource_count m) m.periods (IsWithinCapacity m p)
  pub end_stock : (i : ℕ) → 1 ≤ i → i ≤ item_count m → IsEndStock m p i
  pub backlog : EachCell m (IsBacklogAllowed m p)
  pub lots : EachCell m (IsLot m p)
  pub horizon : EachCell m (IsInHorizon m p)

-- what an item costs in a period
abbrev pub cost_at : Problem → Plan → ℕ → ℕ → ℕ
cost_at m p i t = unit_cost m i t * p.make i t + setup_cost m i t * p.setup i t + hold_cost m i t * p.stock i t + backlog_cost m i t * p.backlog i t

abbrev pub cost : Problem → Plan → ℕ
cost m p = sum_to (item_count m) (λ i. sum_to m.periods (λ t. cost_at m p i t))
