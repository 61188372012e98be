-- What every feasible plan of a problem pays for the lots of an item.
use Rattle.std.specs.Prelude.{◌≡◌, ℕ, ◌≤◌}
use Rattle.lot_sizing.specs.Problem.{Problem, item_count}
use Rattle.lot_sizing.specs.Plan.{Plan, IsFeasible, Table}
use Rattle.lot_sizing.specs.Net.{choice}
use Rattle.lot_sizing.specs.Totals.{AreLargestTotals, IsRanking}
use Rattle.must_start.specs.MustStart.{AreMustStart}
use Rattle.must_start.specs.Lots.{IsLargestLot}
use Rattle.quantity_dp.specs.Lots.{IsChoice, Lots}

-- the lots of an item: what must have been started of it, and its largest lots, at any prices, whatever is asked
pub record AreLotsOf (m : Problem) (start : Table) (total : ℕ → ℕ) (i : ℕ) (a : Lots) : Type 0 where
  pub periods : a.periods ≡ m.periods
  pub need : (t : ℕ) → 1 ≤ t → t ≤ m.periods → a.need t ≡ start i t
  pub largest : (t : ℕ) → 1 ≤ t → t ≤ m.periods → IsLargestLot m total i t (a.largest t)

-- the quantities and setups of an item in a feasible plan are a choice of its lots, so that they cost at least the least price, and no plan is feasible where there is no choice
abbrev pub PlansAreChoices : Type 0
PlansAreChoices =
    (m : Problem) (rank total : ℕ → ℕ) (start : Table) (i : ℕ) (a : Lots) → 1 ≤ m.periods → IsRanking m rank
    → AreLargestTotals m total → AreMustStart m start → 1 ≤ i → i ≤ item_count m → AreLotsOf m start total i a
    → (p : Plan) → IsFeasible m p → IsChoice a (choice p.make p.setup i)
