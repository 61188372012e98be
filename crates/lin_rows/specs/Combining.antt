-- Sums of multiples of rows, and what they prove of points.
use Rattle.std.specs.Prelude.{◌≡◌, ◌≤◌, ℕ, ◌*◌, false, ℤ, pos, ◌+ℤ◌, ◌*ℤ◌, ◌≤ℤ◌, ◌<ℤ◌, List, [], ◌∷◌, ⊤}
use Rattle.std.specs.List.{All}
use Rattle.lot_sizing.specs.Problem.{Problem}
use Rattle.lot_sizing.specs.Plan.{Plan, IsFeasible, cost}
use Rattle.lot_sizing.specs.Totals.{AreLargestTotals, IsRanking}
use Rattle.lin_rows.specs.declared.base.RowName.{RowName}
use Rattle.lin_rows.specs.declared.column.Column.{Column}
use Rattle.lin_rows.specs.declared.row.Term.{Term}
use Rattle.lin_rows.specs.Base.{HasRow, row_of}
use Rattle.lin_rows.specs.Columns.{IsColumn, column_cost, value_in}
use Rattle.lin_rows.specs.Costs.{point_cost}
use Rattle.lin_rows.specs.Rows.{HoldsAt, HoldsIn, LinPoint, LinRow, sum_at, whole_point}
use Rattle.lin_rows.specs.Sums.{coefficient}

-- a number of each row, taken so many times; what the longer list has more doesn't count
abbrev pub sum_of : List LinRow → List ℤ → (LinRow → ℤ) → ℤ
sum_of [] times f = pos 0
sum_of (r ∷ rows) [] f = pos 0
sum_of (r ∷ rows) (z ∷ times) f = z *ℤ f r +ℤ sum_of rows times f

-- how many times the sum takes a column
abbrev pub column_sum : List LinRow → List ℤ → Column → ℤ
column_sum rows times c = sum_of rows times (λ r. coefficient r.terms c)

-- what the right sides add to
abbrev pub right_sum : List LinRow → List ℤ → ℤ
right_sum rows times = sum_of rows times (λ r. r.right)

-- only an equation is taken a negative number of times
abbrev pub AreSigned : List LinRow → List ℤ → Type 0
AreSigned [] times = ⊤
AreSigned (r ∷ rows) [] = ⊤
AreSigned (r ∷ rows) (z ∷ times) = (r.equal ≡ false → pos 0 ≤ℤ z) × AreSigned rows times

-- each row holds at the point
abbrev pub AllHold : LinPoint → List LinRow → Type 0
AllHold q [] = ⊤
AllHold q (r ∷ rows) = HoldsAt q r × AllHold q rows

-- the columns of each row are those of the problem
abbrev pub AreOfProblem : Problem → List LinRow → Type 0
AreOfProblem m [] = ⊤
AreOfProblem m (r ∷ rows) = All (λ a. IsColumn m a.column) r.terms × AreOfProblem m rows

-- the sum of each column is at most den times its cost
abbrev pub AreWithinCosts : Problem → List LinRow → List ℤ → ℕ → Type 0
AreWithinCosts m rows times den = (c : Column) → IsColumn m c → column_sum rows times c ≤ℤ (pos den *ℤ pos (column_cost m c))

-- where the sum takes no column more often than den times these terms do, the right sides add to at most den times the terms at each point at which the rows hold; its denominator is multiplied out
abbrev pub SumsHold : Type 0
SumsHold =
    (rows : List LinRow) (times : List ℤ) (den : ℕ) (terms : List Term)
    → AreSigned rows times
    → ((c : Column) → column_sum rows times c ≤ℤ (pos den *ℤ coefficient terms c))
    → (q : LinPoint) → AllHold q rows → (right_sum rows times *ℤ pos q.den) ≤ℤ (pos den *ℤ sum_at q.values terms)

-- where no item is its own component, each row that the rules of plans make holds at each feasible plan
abbrev pub BaseRowsHold : Type 0
BaseRowsHold =
    (m : Problem) (rank total : ℕ → ℕ) → 1 ≤ m.periods → IsRanking m rank → AreLargestTotals m total
    → (p : Plan) → IsFeasible m p → (name : RowName) → HasRow m name → HoldsIn p (row_of m total name)

-- and its columns are those of the problem, whatever the totals are
abbrev pub BaseColumnsExist : Type 0
BaseColumnsExist =
    (m : Problem) (total : ℕ → ℕ) → 1 ≤ m.periods
    → (name : RowName) → HasRow m name → All (λ a. IsColumn m a.column) (row_of m total name).terms

-- a feasible plan costs what its point costs
abbrev pub PlansCost : Type 0
PlansCost = (m : Problem) (p : Plan) → IsFeasible m p → point_cost m (value_in p) ≡ cost m p

-- where the sum of each column is at most den times its cost, the right sides add to at most den times what a point costs at which the rows hold; its denominator is multiplied out
abbrev pub SumsBound : Type 0
SumsBound =
    (m : Problem) (rows : List LinRow) (times : List ℤ) (den : ℕ)
    → AreSigned rows times → AreOfProblem m rows → AreWithinCosts m rows times den
    → (q : LinPoint) → AllHold q rows → (right_sum rows times *ℤ pos q.den) ≤ℤ (pos den *ℤ pos (point_cost m q.values))

-- so they add to at most den times what a feasible plan costs
abbrev pub SumsBoundPlans : Type 0
SumsBoundPlans =
    (m : Problem) (rows : List LinRow) (times : List ℤ) (den : ℕ)
    → AreSigned rows times → AreOfProblem m rows → AreWithinCosts m rows times den
    → (p : Plan) → IsFeasible m p → AllHold (whole_point (value_in p)) rows → right_sum rows times ≤ℤ (pos den *ℤ pos (cost m p))

-- where no column's sum is positive and that of the right sides is, the rows hold together at no point
abbrev pub SumsRefute : Type 0
SumsRefute =
    (m : Problem) (rows : List LinRow) (times : List ℤ)
    → AreSigned rows times → AreOfProblem m rows
    → ((c : Column) → IsColumn m c → column_sum rows times c ≤ℤ pos 0) → pos 0 <ℤ right_sum rows times
    → (q : LinPoint) → AllHold q rows → ⊥
