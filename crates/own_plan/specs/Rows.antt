-- Rows of own-period lots, while the items are taken one after the other.
use Rattle.std.specs.Prelude.{◌≡◌, ◌⊎◌, ℕ, ◌-◌, ◌≤◌, ◌<◌}
use Rattle.lot_sizing.specs.Sums.{sum_to}
use Rattle.lot_sizing.specs.Problem.{Problem, EachItem}
use Rattle.lot_sizing.specs.Plan.{Table}
use Rattle.lot_sizing.specs.Net.{needed_to}
use Rattle.plan_rules.specs.Cells.{Cells, Fits, table_of}
use Rattle.plan_rules.specs.Rows.{OtherRowsSame}
use Rattle.own_plan.specs.OwnPeriod.{IsOwnLot, asked_with, one_if_some}

-- the row of an item: its own-period lots, and a setup exactly where something is made
pub record IsOwnRow (m : Problem) (make setup : Table) (i : ℕ) : Type 0 where
  pub lots : (t : ℕ) → 1 ≤ t → t ≤ m.periods → IsOwnLot m make i t
  pub setups : (t : ℕ) → 1 ≤ t → t ≤ m.periods → setup i t ≡ one_if_some (make i t)

-- the row before a period, where the quantities of other items are those of the older table
pub record IsOwnBefore (m : Problem) (old make setup : Table) (i t : ℕ) : Type 0 where
  pub lots : (u : ℕ) → 1 ≤ u → u < t → make i u ≡ needed_to (asked_with m old i) u - sum_to (u - 1) (make i)
  pub setups : (u : ℕ) → 1 ≤ u → u < t → setup i u ≡ one_if_some (make i u)

-- an item comes before this one, by rank and then by number
abbrev pub IsTaken : (ℕ → ℕ) → ℕ → ℕ → ℕ → Type 0
IsTaken rank k item i = (rank i < k) ⊎ ((rank i ≡ k) × (i < item))

-- the rows of the items before one are own-period lots
pub record AreOwnRows (m : Problem) (rank : ℕ → ℕ) (k item : ℕ) (make setup : Cells) : Type 0 where
  pub make_fits : Fits m make
  pub setup_fits : Fits m setup
  pub rows : EachItem m (λ i. IsTaken rank k item i → IsOwnRow m (table_of make) (table_of setup) i)

-- the row of one item is made of own-period lots, and the others are as they were
pub record IsRowMade (m : Problem) (i : ℕ) (make_old setup_old make setup : Cells) : Type 0 where
  pub make_fits : Fits m make
  pub setup_fits : Fits m setup
  pub row : IsOwnRow m (table_of make) (table_of setup) i
  pub other_makes : OtherRowsSame make_old make i
  pub other_setups : OtherRowsSame setup_old setup i
