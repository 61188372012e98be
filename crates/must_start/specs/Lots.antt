-- The largest lot of an item in a period by itself: the bound by time of a variable upper bound (Pochet and Wolsey, Production Planning by Mixed Integer Programming, 2006).
use Rattle.std.specs.Prelude.{◌≡◌, ◌⊎◌, ℕ, ◌+◌, ◌*◌, ◌≤◌, IfSome}
use Rattle.lot_sizing.specs.Problem.{Problem, capacity, item_at, resource_count, setup_time, unit_time}
use Rattle.lot_sizing.specs.Plan.{EachCell, Plan, IsFeasible}
use Rattle.lot_sizing.specs.Totals.{AreLargestTotals, IsRanking}

-- the quantity is within the largest total and the largest lot, and each resource has the time for it and a setup, if nothing else is made
pub record IsPossibleLot (m : Problem) (total : ℕ → ℕ) (i t x : ℕ) : Type 0 where
  pub in_all : x ≤ total i
  pub most : IfSome (item_at m i).max_lot (λ most. x ≤ most)
  pub time : (k : ℕ) → 1 ≤ k → k ≤ resource_count m → unit_time m i k * x + setup_time m i k ≤ capacity m k t

-- the largest quantity that is possible, and 0 where none is
pub record IsLargestLot (m : Problem) (total : ℕ → ℕ) (i t lot : ℕ) : Type 0 where
  pub possible : IsPossibleLot m total i t lot ⊎ (lot ≡ 0)
  pub largest : (x : ℕ) → IsPossibleLot m total i t x → x ≤ lot

-- whatever totals solve the equations of the largest totals
abbrev pub IsLargestLotOf : Problem → ℕ → ℕ → ℕ → Type 0
IsLargestLotOf m i t lot = (total : ℕ → ℕ) → AreLargestTotals m total → IsLargestLot m total i t lot

-- no feasible plan makes more in the period, and nothing without a setup
abbrev pub IsMostMade : Problem → ℕ → ℕ → ℕ → Type 0
IsMostMade m i t lot = (p : Plan) → IsFeasible m p → p.make i t ≤ lot * p.setup i t

-- a feasible plan makes at most the largest lot, and that with a setup
abbrev pub LotsHold : Type 0
LotsHold =
    (m : Problem) (rank total : ℕ → ℕ) → 1 ≤ m.periods → IsRanking m rank → AreLargestTotals m total → (p : Plan) → IsFeasible m p
    → EachCell m (λ i t. (lot : ℕ) → IsLargestLot m total i t lot → p.make i t ≤ lot * p.setup i t)

-- an item has one largest lot in a period
abbrev pub LotsAreOne : Type 0
LotsAreOne = (m : Problem) (total : ℕ → ℕ) (i t a b : ℕ) → IsLargestLot m total i t a → IsLargestLot m total i t b → a ≡ b
