-- Replanning with a frozen start: what is made and set up in the first periods is kept.
use Rattle.std.specs.Prelude.{◌≡◌, ℕ, zero, suc, ℤ, pos, ◌+ℤ◌, ◌-ℤ◌, ◌+◌, ◌≤◌, IsNone}
use Rattle.lot_sizing.specs.Sums.{sum_to}
use Rattle.lot_sizing.specs.Problem.{EachItem, Problem, demand, item_at, item_count, resource_count}
use Rattle.lot_sizing.specs.Plan.{Each, IsFeasible, IsLot, IsMadeWithSetup, IsSetup, IsWithinCapacity, Plan, Table, cost, cost_at, used_up}
use Rattle.lot_sizing.specs.Least.{least_backlog, least_plan}

-- no item has a lead time
abbrev pub HasNoLeads : Problem → Type 0
HasNoLeads m = EachItem m (λ i. (item_at m i).lead ≡ 0)

-- two plans have equal quantities and setups in the first periods
pub record Agrees (m : Problem) (p q : Plan) (first : ℕ) : Type 0 where
  pub make : Each (item_count m) first (λ i t. p.make i t ≡ q.make i t)
  pub setup : Each (item_count m) first (λ i t. p.setup i t ≡ q.setup i t)

-- what is left of an item after a period, or, below 0, what is owed of it: each lot counts in its own period
abbrev pub left_or_owed : Problem → Table → ℕ → ℕ → ℤ
left_or_owed m make i zero = pos (item_at m i).opening
left_or_owed m make i (suc t) = left_or_owed m make i t +ℤ (pos (make i (suc t)) -ℤ pos (demand m i (suc t) + used_up m make i (suc t)))

-- a start stands: its setups, times and lots are as in a feasible plan, and nothing is owed of an item that may not be late
pub record StartStands (m : Problem) (p : Plan) (first : ℕ) : Type 0 where
  pub setup : Each (item_count m) first (IsSetup p)
  pub made : Each (item_count m) first (IsMadeWithSetup p)
  pub capacity : Each (resource_count m) first (IsWithinCapacity m p)
  pub lots : Each (item_count m) first (IsLot m p)
  pub in_time : Each (item_count m) first (λ i t. IsNone (item_at m i).backlog_cost → least_backlog m p.make i t ≡ 0)

-- what the first periods cost, with the least stocks and backlogs
abbrev pub spent : Problem → Plan → ℕ → ℕ
spent m p first = sum_to (item_count m) (λ i. sum_to first (λ t. cost_at m (least_plan m p.make p.setup) i t))

-- no feasible plan agrees with the start
abbrev pub NoneAgreesWith : Problem → Plan → ℕ → Type 0
NoneAgreesWith m p first = (q : Plan) → IsFeasible m q → Agrees m p q first → ⊥

-- every feasible plan that agrees with the start costs at least this
abbrev pub IsFloorAfter : Problem → Plan → ℕ → ℕ → Type 0
IsFloorAfter m p first bound = (q : Plan) → IsFeasible m q → Agrees m p q first → bound ≤ cost m q

-- the plan is feasible and agrees with the start, and none that does costs less
pub record IsBestAfter (m : Problem) (p : Plan) (first : ℕ) (q : Plan) : Type 0 where
  pub feasible : IsFeasible m q
  pub agrees : Agrees m p q first
  pub least : IsFloorAfter m p first (cost m q)
