-- Plans are points of the relaxation, and there is at most one closed value.
use Rattle.std.proofs.Common.{◌≤◌, ◌<◌, ◌+◌, ⊎_elim, ℕ, refl, arith, [], ◌∷◌}
use Rattle.std.proofs.lemmas.Bool.{cases_lt}
use Rattle.std.proofs.Math.Nat.{mul-le-mul_right}
use Rattle.lot_sizing.specs.Problem.{Problem}
use Rattle.lot_sizing.specs.Best.{IsFloor, IsImpossible}
use Rattle.lot_sizing.specs.Bill.{AreWeights, bill_of}
use Rattle.lot_sizing.specs.Laws.{BoundsTotals}
use Rattle.lot_sizing.specs.Totals.{AreLargestTotals, IsRanking}
use Rattle.echelon.specs.Views.{marked}
use Rattle.lin_rows.specs.Columns.{value_in}
use Rattle.lin_rows.specs.Combining.{PlansCost}
use Rattle.lin_rows.specs.Rows.{whole_point}
use Rattle.lin_rows.proofs.Holding.{row_holds}
use Rattle.ls_cuts.specs.Rows.{ls_row}
use Rattle.cert_lines.specs.Shapes.{LsCut}
use Rattle.cert_meaning.specs.CutRows.{echelon_at}
use Rattle.cert_meaning.specs.Laws.{CutsHold}
use Rattle.lp_relaxation.specs.Values.{IsOne, PlansAreRelaxed}
use Rattle.lp_relaxation.specs.Relaxation.{IsClosedValue, IsEmptied}

-- by the largest totals, which no plan passes, and by the cuts that the (l,S) rows are
pub plans_are_relaxed : BoundsTotals → CutsHold → PlansCost → PlansAreRelaxed
plans_are_relaxed bounds cuts costs m rank total weight some ranks totals weights p f = (
  record {
    base = λ name has. row_holds m p total name f some (λ i low high. bounds m rank total some ranks totals p f i low high) has;
    ls = λ i l marks is. ((cuts m rank total weight some ranks totals weights (LsCut i l marks ∷ []) (ls_row (echelon_at m weight i) l (marked marks) ∷ []) ((is, refl), tt)).0 p f).0;
  },
  costs m p f,
)

pub floors : PlansAreRelaxed → (m : Problem) (rank total : ℕ → ℕ) (weight : ℕ → ℕ → ℕ) → 1 ≤ m.periods → IsRanking m rank → AreLargestTotals m total → AreWeights (bill_of m) weight → (c : ℕ) → IsClosedValue m total weight c → IsFloor m c
floors relaxed m rank total weight some ranks totals weights c closed p f =
    let both = relaxed m rank total weight some ranks totals weights p f in
    omega (arith, closed.each (whole_point (value_in p)) both.0, both.1)

pub impossible : PlansAreRelaxed → (m : Problem) (rank total : ℕ → ℕ) (weight : ℕ → ℕ → ℕ) → 1 ≤ m.periods → IsRanking m rank → AreLargestTotals m total → AreWeights (bill_of m) weight → IsEmptied m total weight → IsImpossible m
impossible relaxed m rank total weight some ranks totals weights none p f = none (whole_point (value_in p)) (relaxed m rank total weight some ranks totals weights p f).0

-- ---- at most one closed value
module _ (m : Problem) (total : ℕ → ℕ) (weight : ℕ → ℕ → ℕ) where
  at_most : (c d : ℕ) → IsClosedValue m total weight c → IsClosedValue m total weight d → d ≤ c
  at_most c d one other =
      let q = one.some.0 in
      let above = other.each q one.some.1 in
      ⊎_elim
      (λ less. let more = mul-le-mul_right q.den (next c d less) in absurd (omega (arith, more, above, one.some.2)))
      (λ most. most)
      (cases_lt c d)
    where
      next : (c d : ℕ) → c < d → c + 1 ≤ d
      next c d less = omega (arith, less)

  pub is_one : IsOne m total weight
  is_one = record {
    value = λ c d one other. omega (arith, at_most c d one other, at_most d c other one);
    apart = λ c closed none. none closed.some.0 closed.some.1;
  }
