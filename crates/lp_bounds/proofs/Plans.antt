-- The base bound is one, and plans cost no less.
use Rattle.std.proofs.Common.{◌≤◌, ◌<◌, ◌+◌, ◌*◌, ◌∙◌, ⊎_elim, ℕ, sym, ap, arith, length}
use Rattle.std.proofs.lemmas.Bool.{cases_lt}
use Rattle.std.proofs.Math.Nat.{mul-le-mul_right}
use Rattle.lot_sizing.specs.Problem.{Problem}
use Rattle.lot_sizing.specs.Laws.{BoundsTotals}
use Rattle.lot_sizing.specs.Plan.{IsFeasible, Plan}
use Rattle.lot_sizing.specs.Totals.{AreLargestTotals, IsRanking}
use Rattle.lin_rows.specs.Columns.{value_in}
use Rattle.lin_rows.specs.Combining.{PlansCost}
use Rattle.lin_rows.specs.Rows.{whole_point}
use Rattle.lin_rows.proofs.Holding.{row_holds}
use Rattle.lp_relaxation.specs.Relaxation.{MeetsBaseRows}
use Rattle.lp_bounds.specs.Bounds.{BaseBoundsAreFloors, BaseBoundsAreOne, CellsAreOne, EmptyIsImpossible, IsBoundBy}

-- ---- one bound
module _ (m : Problem) (total : ℕ → ℕ) where
  at_most : (n k : ℕ) → IsBoundBy m total n → IsBoundBy m total k → k ≤ n
  at_most n k one other =
      let q = one.some.0 in
      let above = other.each q one.some.1 in
      ⊎_elim
      (λ less. let more = mul-le-mul_right q.den (next n k less) in absurd (omega (arith, more, above, one.some.2)))
      (λ most. most)
      (cases_lt n k)
    where
      next : (n k : ℕ) → n < k → n + 1 ≤ k
      next n k less = omega (arith, less)

pub are_one : BaseBoundsAreOne
are_one m total totals = record {
  bound = λ n k one other. omega (arith, at_most m total n k (one total totals) (other total totals), at_most m total k n (other total totals) (one total totals));
  apart = λ n bound none. let some = (bound total totals).some in none total totals some.0 some.1;
}

pub cells_are_one : CellsAreOne
cells_are_one m total p q totals one other =
    let a = one total totals in
    let b = other total totals in
    ap (λ k. (k + 1) * (length p.costs + 1)) (ap length (a.rows_are ∙ sym b.rows_are)) ∙ ap (λ k. (length q.rows + 1) * (k + 1)) (a.costs_are.size ∙ sym b.costs_are.size)

-- ---- plans
plan_meets : BoundsTotals → (m : Problem) (rank total : ℕ → ℕ) → 1 ≤ m.periods → IsRanking m rank → AreLargestTotals m total → (p : Plan) → IsFeasible m p → MeetsBaseRows m total (whole_point (value_in p))
plan_meets bounds m rank total some ranks totals p f name has = row_holds m p total name f some (λ i low high. bounds m rank total some ranks totals p f i low high) has

pub floors : BoundsTotals → PlansCost → BaseBoundsAreFloors
floors bounds costs m rank total some ranks totals n bound p f =
    omega (arith, (bound total totals).each (whole_point (value_in p)) (plan_meets bounds m rank total some ranks totals p f), costs m p f)

pub impossible : BoundsTotals → EmptyIsImpossible
impossible bounds m rank total some ranks totals none p f = none total totals (whole_point (value_in p)) (plan_meets bounds m rank total some ranks totals p f)
