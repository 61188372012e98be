-- What the outcome of a program of named rows says of points of the linear model, and the leaf that its multipliers make.
use Rattle.std.specs.Prelude.{◌≡◌, ℕ, ◌-◌, ℤ, pos, List, map}
use Rattle.std.specs.List.{All}
use Rattle.rational.specs.Rational.{ℚ, whole, ceil_ℚ, ◌*ℚ◌, ◌≤ℚ◌}
use Rattle.lot_sizing.specs.Problem.{IsWithinLimits, Problem}
use Rattle.lin_rows.specs.declared.column.Column.{Column}
use Rattle.lin_rows.specs.declared.base.RowName.{RowName}
use Rattle.lin_rows.specs.Columns.{IsColumn, number_of}
use Rattle.lin_rows.specs.Combining.{AllHold, AreOfProblem}
use Rattle.lin_rows.specs.Costs.{point_cost}
use Rattle.lin_rows.specs.Rows.{LinPoint, LinRow}
use Rattle.tableau.specs.Leaves.{AreOfLeaf}
use Rattle.tableau.specs.Meaning.{AreBest, AreEmpty}
use Rattle.tableau.specs.Program.{Program, row_count}
use Rattle.cert_meaning.specs.Named.{IsNamed, Named, row_named}
use Rattle.cert_meaning.specs.Says.{IsFarkas, IsLinear}
use Rattle.lp_relaxation.specs.declared.program.Side.{Side}
use Rattle.lp_relaxation.specs.Costs.{AreCosts}
use Rattle.lp_relaxation.specs.Sides.{all_sides, parts_of, program_rows}

-- ---- the program of named rows
abbrev pub rows_of_names : Named → List RowName → List LinRow
rows_of_names n list = map (row_named n) list

abbrev pub sides_named : Named → List RowName → List Side
sides_named n list = all_sides (row_named n) list

-- its columns are those of the problem by their numbers, with their costs, and its rows are the sides of the named rows
pub record IsProgramOf (n : Named) (list : List RowName) (p : Program) : Type 0 where
  pub costs_are : AreCosts n.problem p.costs
  pub rows_are : p.rows ≡ program_rows n.problem (row_named n) (sides_named n list)

-- there are rows of these names, and their columns are the problem's
pub record AreRowsOf (n : Named) (list : List RowName) : Type 0 where
  pub limits : IsWithinLimits n.problem
  pub named : All (IsNamed n) list
  pub columns : AreOfProblem n.problem (rows_of_names n list)

-- ---- points
-- a point's numerators over its denominator are these fractions, by the numbers of columns
abbrev pub HasFractions : Problem → (ℕ → ℚ) → LinPoint → Type 0
HasFractions m x q = (c : Column) → IsColumn m c → whole (pos (q.values c)) ≡ whole (pos q.den) *ℚ x (number_of m c - 1)

-- ---- a least point
pub record LeastSays (n : Named) (list : List RowName) (x : ℕ → ℚ) (value : ℚ) (den : ℕ) (z : ℕ → ℤ) : Type 0 where
  -- some point has its fractions
  pub point : (q : LinPoint) × HasFractions n.problem x q
  -- each that has them meets the rows and costs the value
  pub met : (q : LinPoint) → HasFractions n.problem x q → AllHold q (rows_of_names n list)
  pub cost : (q : LinPoint) → HasFractions n.problem x q → whole (pos (point_cost n.problem q.values)) ≡ whole (pos q.den) *ℚ value
  -- no point that meets the rows costs less
  pub least : (q : LinPoint) → AllHold q (rows_of_names n list) → (whole (pos q.den) *ℚ value) ≤ℚ whole (pos (point_cost n.problem q.values))
  -- the value rounded up is at least 0, and the leaf of the multipliers says it
  pub rounded : (c : ℕ) × (pos c ≡ ceil_ℚ value)
  pub leaf : (c : ℕ) → pos c ≡ ceil_ℚ value → IsLinear n (pos den) (parts_of (sides_named n list) z) c

-- ---- no point
pub record EmptySays (n : Named) (list : List RowName) (z : ℕ → ℤ) : Type 0 where
  -- no point meets the rows, and the leaf of the multipliers says so
  pub none : (q : LinPoint) → AllHold q (rows_of_names n list) → ⊥
  pub leaf : IsFarkas n (parts_of (sides_named n list) z)

-- ---- whole multipliers over their least common denominator
abbrev pub LeastIsSaid : Type 0
LeastIsSaid =
    (n : Named) (list : List RowName) (p : Program) (x y : ℕ → ℚ) (value : ℚ) (den : ℕ) (z : ℕ → ℤ)
    → AreRowsOf n list → IsProgramOf n list p → AreBest p x y value → AreOfLeaf (row_count p) y den z
    → LeastSays n list x value den z

abbrev pub EmptyIsSaid : Type 0
EmptyIsSaid =
    (n : Named) (list : List RowName) (p : Program) (y : ℕ → ℚ) (den : ℕ) (z : ℕ → ℤ)
    → AreRowsOf n list → IsProgramOf n list p → AreEmpty p y → AreOfLeaf (row_count p) y den z
    → EmptySays n list z
