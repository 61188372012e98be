-- What the relaxation says of plans, and that it is one whichever largest totals and weights are taken.
use Rattle.std.specs.Prelude.{◌≡◌, ℕ}
use Rattle.lot_sizing.specs.Problem.{Problem}
use Rattle.lot_sizing.specs.Plan.{Plan, IsFeasible, cost}
use Rattle.lot_sizing.specs.Best.{IsFloor, IsImpossible}
use Rattle.lin_rows.specs.Columns.{value_in}
use Rattle.lin_rows.specs.Costs.{point_cost}
use Rattle.lin_rows.specs.Rows.{LinPoint, whole_point}
use Rattle.cert_meaning.specs.Laws.{AreBoth, OfProblems}
use Rattle.lp_relaxation.specs.Relaxation.{Closes, HasNoPoint, IsClosedValue, IsEmptied, IsRelaxed}

-- a feasible plan is a point of the relaxation, and costs as much as the point
abbrev pub PlansAreRelaxed : Type 0
PlansAreRelaxed =
    OfProblems (λ m total weight. (p : Plan) → IsFeasible m p → IsRelaxed m total weight (whole_point (value_in p)) × (point_cost m (value_in p) ≡ cost m p))

-- so no plan costs less than the closed value
abbrev pub ClosedValuesAreFloors : Type 0
ClosedValuesAreFloors = OfProblems (λ m total weight. (c : ℕ) → IsClosedValue m total weight c → IsFloor m c)

-- and where the relaxation has no point there is no plan
abbrev pub EmptyIsImpossible : Type 0
EmptyIsImpossible = OfProblems (λ m total weight. IsEmptied m total weight → IsImpossible m)

-- a relaxation closes to at most one value, and has a point then
pub record IsOne (m : Problem) (total : ℕ → ℕ) (weight : ℕ → ℕ → ℕ) : Type 0 where
  pub value : (c d : ℕ) → IsClosedValue m total weight c → IsClosedValue m total weight d → c ≡ d
  pub apart : (c : ℕ) → IsClosedValue m total weight c → IsEmptied m total weight → ⊥

abbrev pub ClosedValuesAreOne : Type 0
ClosedValuesAreOne = (m : Problem) (total : ℕ → ℕ) (weight : ℕ → ℕ → ℕ) → IsOne m total weight

-- ---- two ways to give the largest totals and the weights of a problem
-- a point of the relaxation by one of them is one by the other
abbrev pub RelaxedByBoth : Type 0
RelaxedByBoth =
    (m : Problem) (a b : ℕ → ℕ) (v w : ℕ → ℕ → ℕ) → AreBoth m a b v w → (q : LinPoint) → IsRelaxed m a v q → IsRelaxed m b w q

-- so the value by one choice is the problem's
abbrev pub ClosesByOne : Type 0
ClosesByOne = OfProblems (λ m total weight. (c : ℕ) → IsClosedValue m total weight c → Closes m c)

-- and where it has no point by one choice it has none
abbrev pub EmptyByOne : Type 0
EmptyByOne = OfProblems (λ m total weight. IsEmptied m total weight → HasNoPoint m)
