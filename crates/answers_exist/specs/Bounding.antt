-- The base bound of each problem comes to something.
use Rattle.std.specs.Prelude.{◌⊎◌, ℕ}
use Rattle.lot_sizing.specs.Problem.{IsWithinLimits, Problem}
use Rattle.lot_sizing.specs.Best.{IsFloor, IsImpossible}
use Rattle.lot_sizing.specs.Totals.{IsRanking}
use Rattle.existence.specs.Runs.{HasUnfitNumber}
use Rattle.tableau.specs.Program.{Program}
use Rattle.lp_bounds.specs.Bounds.{HasFewCells, HasManyCells, HasNoBasePoint, IsBaseBound, IsBaseProgram}

-- some number is the base bound, and no plan costs less
abbrev pub HasBound : Problem → Type 0
HasBound m = (n : ℕ) × IsBaseBound m n × IsFloor m n

-- no point meets all base rows, and there is no plan
abbrev pub IsEmpty : Problem → Type 0
IsEmpty m = HasNoBasePoint m × IsImpossible m

-- the exact run of the program of the base rows comes to a number that doesn't fit
abbrev pub Passes : Problem → Type 0
Passes m = (p : Program) × IsBaseProgram m p × HasUnfitNumber p

-- the tableau of the base rows has too many cells; or it has few, and its run comes to one of these
abbrev pub BoundsComeOut : Type 0
BoundsComeOut =
    (m : Problem) (rank : ℕ → ℕ) → IsWithinLimits m → IsRanking m rank
    → HasManyCells m ⊎ (HasFewCells m × (HasBound m ⊎ (IsEmpty m ⊎ Passes m)))
