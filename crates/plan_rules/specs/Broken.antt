-- Which rule is broken first.
use Rattle.std.specs.Prelude.{◌≡◌, ℕ, ◌≤◌, ◌<◌, ◌+◌, ◌-◌, ℤ, pos, ◌+ℤ◌, ◌-ℤ◌, Result, Ok, Err}
use Rattle.lot_sizing.specs.Problem.{Problem, EachItem, item_count, resource_count, demand}
use Rattle.lot_sizing.specs.Plan.{Plan, EachCell, Each, IsSetup, IsBalanced, IsMadeWithSetup, IsWithinCapacity, IsEndStock, IsBacklogAllowed, IsLot, IsInHorizon, IsFeasible, arriving, cost, stock_after, backlog_after, used_up, time_used}
use Rattle.plan_rules.specs.Held.{AllFit, plan_of}
use Rattle.plan_rules.specs.Order.{IsFirst}
use Rattle.plan_rules.specs.declared.broken.Broken.{Broken}
use Rattle.plan_rules.specs.declared.broken.Broken.TheVariants.{Shape, SetupRange, Balance, SetupMissing, Capacity, EndStock, BacklogNotAllowed, Lot, Late}
use Rattle.plan_rules.specs.declared.plan.Plan as grids

-- the first item and period at which a rule is broken
abbrev pub IsFirstCell : Problem → (ℕ → ℕ → Type 0) → ℕ → ℕ → Type 0
IsFirstCell m R i t = IsFirst (item_count m) m.periods R i t

-- what there is of an item in a period with the lot that arrives, less what is owed
abbrev pub balance_left : Problem → Plan → ℕ → ℕ → ℤ
balance_left m p i t = (pos (stock_after m p i (t - 1)) -ℤ pos (backlog_after p i (t - 1))) +ℤ pos (arriving m p.make i t)

-- where it goes
abbrev pub balance_right : Problem → Plan → ℕ → ℕ → ℤ
balance_right m p i t = (pos (demand m i t + used_up m p.make i t + p.stock i t)) -ℤ pos (p.backlog i t)

-- the first item whose last stock is out of its bounds
pub record IsFirstEnd (m : Problem) (p : Plan) (i : ℕ) : Type 0 where
  pub low : 1 ≤ i
  pub high : i ≤ item_count m
  pub broken : IsEndStock m p i → ⊥
  pub before : (j : ℕ) → 1 ≤ j → j < i → IsEndStock m p j

-- the rules from that on setups to this one hold everywhere, in the order in which they are looked at
abbrev pub KeepsBalance : Problem → Plan → Type 0
KeepsBalance m p = EachCell m (IsSetup p) × EachCell m (IsBalanced m p)

abbrev pub KeepsMade : Problem → Plan → Type 0
KeepsMade m p = KeepsBalance m p × EachCell m (IsMadeWithSetup p)

abbrev pub KeepsCapacity : Problem → Plan → Type 0
KeepsCapacity m p = KeepsMade m p × Each (resource_count m) m.periods (IsWithinCapacity m p)

abbrev pub KeepsEnds : Problem → Plan → Type 0
KeepsEnds m p = KeepsCapacity m p × EachItem m (IsEndStock m p)

abbrev pub KeepsBacklogs : Problem → Plan → Type 0
KeepsBacklogs m p = KeepsEnds m p × EachCell m (IsBacklogAllowed m p)

abbrev pub KeepsLots : Problem → Plan → Type 0
KeepsLots m p = KeepsBacklogs m p × EachCell m (IsLot m p)

-- of grids that fit, this rule is the first that is broken, and there
abbrev pub IsBroken : Problem → Plan → Broken → Type 0
IsBroken m p Shape = ⊥
IsBroken m p (SetupRange i t) = IsFirstCell m (IsSetup p) i t
IsBroken m p (Balance i t left right) = EachCell m (IsSetup p) × IsFirstCell m (IsBalanced m p) i t × (left ≡ balance_left m p i t) × (right ≡ balance_right m p i t)
IsBroken m p (SetupMissing i t) = KeepsBalance m p × IsFirstCell m (IsMadeWithSetup p) i t
IsBroken m p (Capacity k t used) = KeepsMade m p × IsFirst (resource_count m) m.periods (IsWithinCapacity m p) k t × (used ≡ time_used m p k t)
IsBroken m p (EndStock i) = KeepsCapacity m p × IsFirstEnd m p i
IsBroken m p (BacklogNotAllowed i t) = KeepsEnds m p × IsFirstCell m (IsBacklogAllowed m p) i t
IsBroken m p (Lot i t) = KeepsBacklogs m p × IsFirstCell m (IsLot m p) i t
IsBroken m p (Late i t) = KeepsLots m p × IsFirstCell m (IsInHorizon m p) i t

-- what is found of a plan: a grid of another shape, else the first rule that is broken, else its cost
abbrev pub IsJudged : Problem → grids.Plan → Result ℕ Broken → Type 0
IsJudged m p (Ok amount) = AllFit m p × IsFeasible m (plan_of p) × (amount ≡ cost m (plan_of p))
IsJudged m p (Err Shape) = AllFit m p → ⊥
IsJudged m p (Err rule) = AllFit m p × IsBroken m (plan_of p) rule
