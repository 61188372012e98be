-- The own-period plan: every lot is made in the period that asks for it, items before their components.
use Rattle.std.specs.Prelude.{◌≡◌, ℕ, ◌+◌, ◌-◌, if◌then◌else◌, ◌==◌}
use Rattle.lot_sizing.specs.Sums.{sum_to}
use Rattle.lot_sizing.specs.Problem.{Problem, IsPlain, item_at, demand}
use Rattle.lot_sizing.specs.Plan.{Plan, Table, EachCell, IsBalanced, IsFeasible, cost, used_up}
use Rattle.lot_sizing.specs.Least.{SameCells}
use Rattle.lot_sizing.specs.Net.{Asked, needed_to}
use Rattle.lot_sizing.specs.Totals.{IsRanking}

-- what is asked of an item with these quantities: its demand, what goes into other items, and the stock required in the end
abbrev pub asked_with : Problem → Table → ℕ → Asked
asked_with m make i = record {
  periods = m.periods;
  demand = λ t. demand m i t + used_up m make i t;
  opening = (item_at m i).opening;
  end_min = (item_at m i).end_min;
}

-- the lot is what must have been made up to its period, less what was made before: what is asked for is met when it is asked for, and no earlier
abbrev pub IsOwnLot : Problem → Table → ℕ → ℕ → Type 0
IsOwnLot m make i t = make i t ≡ needed_to (asked_with m make i) t - sum_to (t - 1) (make i)

-- 1 where something is made
abbrev pub one_if_some : ℕ → ℕ
one_if_some n = if n == 0 then 0 else 1

-- only a plain problem has such a plan; nothing is owed in it, and its stocks follow from the balance
pub record IsOwnPeriod (m : Problem) (p : Plan) : Type 0 where
  pub plain : IsPlain m
  pub make : EachCell m (IsOwnLot m p.make)
  pub setup : EachCell m (λ i t. p.setup i t ≡ one_if_some (p.make i t))
  pub backlog : EachCell m (λ i t. p.backlog i t ≡ 0)
  pub stock : EachCell m (IsBalanced m p)

-- the own-period plan is feasible
abbrev pub HasOwnPeriod : Problem → Type 0
HasOwnPeriod m = (p : Plan) × IsOwnPeriod m p × IsFeasible m p

-- two plans have the same numbers for all items and periods
pub record SameNumbers (m : Problem) (p q : Plan) : Type 0 where
  pub make : SameCells m p.make q.make
  pub setup : SameCells m p.setup q.setup
  pub stock : SameCells m p.stock q.stock
  pub backlog : SameCells m p.backlog q.backlog

-- where no item is its own component there is one own-period plan, so one cost of it
abbrev pub OwnPeriodIsOne : Type 0
OwnPeriodIsOne =
    (m : Problem) (rank : ℕ → ℕ) → IsRanking m rank → (p q : Plan) → IsOwnPeriod m p → IsOwnPeriod m q
    → SameNumbers m p q × (cost m p ≡ cost m q)
