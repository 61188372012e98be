-- The bound of the linear relaxation without cuts.
use Rattle.std.specs.Prelude.{◌≡◌, ℕ, ◌+◌, ◌*◌, ◌≤◌, ◌<◌, [], ⊤}
use Rattle.lot_sizing.specs.Problem.{Problem}
use Rattle.lot_sizing.specs.Best.{IsFloor, IsImpossible}
use Rattle.lot_sizing.specs.Totals.{AreLargestTotals, IsRanking}
use Rattle.lin_rows.specs.Costs.{point_cost}
use Rattle.lin_rows.specs.Rows.{LinPoint}
use Rattle.tableau.specs.declared.outcome.Outcome.TheVariants as outcome
use Rattle.tableau.specs.Program.{Program, column_count, row_count}
use Rattle.tableau.specs.Stepwise.{IsEndOf}
use Rattle.lp_relaxation.specs.Relaxation.{MeetsBaseRows}
use Rattle.lp_relaxation.specs.declared.limits.TheConstants.{MAX_CELLS}
use Rattle.lp_relaxation.specs.Rounds.{IsRoundProgram}
use Rattle.lp_bounds.specs.declared.bound.BoundSays.{BoundSays}
use Rattle.lp_bounds.specs.declared.bound.BoundSays.TheVariants.{Bound, Empty, Skipped, Passed}

-- ---- points that meet all rows which the rules of plans make
-- by these largest totals the least cost of such a point, rounded up, is n: some point costs at most n, and each costs more than n - 1. Both are multiplied by the point's denominator
pub record IsBoundBy (m : Problem) (total : ℕ → ℕ) (n : ℕ) : Type 0 where
  pub some : (q : LinPoint) × MeetsBaseRows m total q × (point_cost m q.values ≤ n * q.den)
  pub each : (q : LinPoint) → MeetsBaseRows m total q → n * q.den < point_cost m q.values + q.den

-- whichever largest totals are taken
abbrev pub IsBaseBound : Problem → ℕ → Type 0
IsBaseBound m n = (total : ℕ → ℕ) → AreLargestTotals m total → IsBoundBy m total n

-- there is no such point
abbrev pub HasNoBasePoint : Problem → Type 0
HasNoBasePoint m = (total : ℕ → ℕ) → AreLargestTotals m total → (q : LinPoint) → MeetsBaseRows m total q → ⊥

-- ---- their linear program
-- all these rows, in the order of the root's first round, and no cuts
abbrev pub IsBaseProgram : Problem → Program → Type 0
IsBaseProgram m p = (total : ℕ → ℕ) → AreLargestTotals m total → IsRoundProgram m total [] p

-- the cells of its tableau
abbrev pub cell_count : Program → ℕ
cell_count p = (row_count p + 1) * (column_count p + 1)

-- at most as many cells as are solved
abbrev pub HasFewCells : Problem → Type 0
HasFewCells m = (p : Program) × IsBaseProgram m p × (cell_count p ≤ MAX_CELLS)

-- more cells than that
abbrev pub HasManyCells : Problem → Type 0
HasManyCells m = (p : Program) × IsBaseProgram m p × (MAX_CELLS < cell_count p)

-- ---- answers
abbrev pub IfBound : (ℕ → Type 0) → BoundSays → Type 0
IfBound P (Bound n) = P n
IfBound P Empty = ⊤
IfBound P (Skipped cells) = ⊤
IfBound P (Passed pivot row column) = ⊤

abbrev pub IfEmpty : Type 0 → BoundSays → Type 0
IfEmpty P (Bound n) = ⊤
IfEmpty P Empty = P
IfEmpty P (Skipped cells) = ⊤
IfEmpty P (Passed pivot row column) = ⊤

-- skipped exactly where there are more cells, with their number
abbrev pub SkipsExactly : Problem → BoundSays → Type 0
SkipsExactly m (Bound n) = HasFewCells m
SkipsExactly m Empty = HasFewCells m
SkipsExactly m (Skipped cells) = (p : Program) × IsBaseProgram m p × (cells ≡ cell_count p) × (MAX_CELLS < cells)
SkipsExactly m (Passed pivot row column) = HasFewCells m

-- passed only where the run by the least-index rule does so, at this pivot and cell
abbrev pub PassesAsRun : Problem → BoundSays → Type 0
PassesAsRun m (Bound n) = ⊤
PassesAsRun m Empty = ⊤
PassesAsRun m (Skipped cells) = ⊤
PassesAsRun m (Passed pivot row column) = (p : Program) × IsBaseProgram m p × IsEndOf p (outcome.Passed pivot row column)

-- ---- laws, of problems that have largest totals
-- there is at most one bound, and none where no point meets the rows
pub record IsOne (m : Problem) : Type 0 where
  pub bound : (n k : ℕ) → IsBaseBound m n → IsBaseBound m k → n ≡ k
  pub apart : (n : ℕ) → IsBaseBound m n → HasNoBasePoint m → ⊥

abbrev pub BaseBoundsAreOne : Type 0
BaseBoundsAreOne = (m : Problem) (total : ℕ → ℕ) → AreLargestTotals m total → IsOne m

-- and one number of cells
abbrev pub CellsAreOne : Type 0
CellsAreOne =
    (m : Problem) (total : ℕ → ℕ) (p q : Program) → AreLargestTotals m total → IsBaseProgram m p → IsBaseProgram m q → cell_count p ≡ cell_count q

-- where no item is its own component, no plan costs less than the bound
abbrev pub OfRanked : (Problem → Type 0) → Type 0
OfRanked P = (m : Problem) (rank total : ℕ → ℕ) → 1 ≤ m.periods → IsRanking m rank → AreLargestTotals m total → P m

abbrev pub BaseBoundsAreFloors : Type 0
BaseBoundsAreFloors = OfRanked (λ m. (n : ℕ) → IsBaseBound m n → IsFloor m n)

-- and where no point meets the rows there is no plan
abbrev pub EmptyIsImpossible : Type 0
EmptyIsImpossible = OfRanked (λ m. HasNoBasePoint m → IsImpossible m)
