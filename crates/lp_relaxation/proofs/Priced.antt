-- What the program's costs say of a point.
use Rattle.std.proofs.Common.{◌≡◌, ◌<◌, ◌+◌, ◌-◌, ◌∙◌, ◌⊎◌, ⊎_elim, inl, inr, ℕ, zero, suc, refl, sym, ap, subst, arith, Bool, true, false, List, [], ◌∷◌, slice_index_or}
use Rattle.std.specs.Prelude.{if◌then◌else◌, map, ℤ, pos, negsuc, ◌+ℤ◌, ◌≤ℤ◌}
use Rattle.algebra.proofs.Integers.{zero_add}
use Rattle.algebra.proofs.Order.{linear}
use Rattle.algebra.proofs.Ordered as O
use Rattle.algebra.proofs.Ordered.{mul_le_right}
use Rattle.algebra.proofs.Sums.{sum-le}
use Rattle.rational.specs.Rational.{ℚ, whole, ◌*ℚ◌, ◌≤ℚ◌}
use Rattle.rational.proofs.Rationals.{rational_ordered}
use Rattle.rational.proofs.Facts.{whole-le}
use Rattle.lot_sizing.specs.Problem.{IsWithinLimits, Problem}
use Rattle.lin_rows.specs.declared.column.Column.{Column}
use Rattle.lin_rows.specs.declared.row.Term.{Term}
use Rattle.lin_rows.specs.Base.{is_some_term, some_terms}
use Rattle.lin_rows.specs.Columns.{IsColumn, column_cost, number_of}
use Rattle.lin_rows.specs.Costs.{point_cost}
use Rattle.lin_rows.specs.Rows.{LinPoint}
use Rattle.lin_rows.specs.Sums.{coefficient, same_column}
use Rattle.lin_rows.proofs.Terms.{sum_some}
use Rattle.tableau.specs.Program.{Program, column_count, cost_at, sum_ℚ, times_of, zero_ℚ}
use Rattle.tableau.specs.Meaning.{cost_sum}
use Rattle.lp_relaxation.specs.Sides.{lp_term}
use Rattle.lp_relaxation.specs.Says.{HasFractions}
use Rattle.lp_relaxation.proofs.Numbering.{taken_or_not, times_are}
use Rattle.lp_relaxation.proofs.Entries.{AreAmong, row_at_point}
use Rattle.lp_relaxation.proofs.Objective.{costs_at_most, objective, objective_at, objective_exists}

-- ---- terms that aren't 0 times their column
none_or_some : (z : ℤ) → (is_some_term z ≡ true) ⊎ ((is_some_term z ≡ false) × (z ≡ pos 0))
none_or_some (pos zero) = inr (refl, refl)
none_or_some (pos (suc n)) = inl refl
none_or_some (negsuc n) = inl refl

if_none : (b : Bool) (z : ℤ) → z ≡ pos 0 → (if b then z else pos 0) ≡ pos 0
if_none true z is = is
if_none false z is = refl

coefficient_some : (ts : List Term) (c : Column) → coefficient (some_terms ts) c ≡ coefficient ts c
coefficient_some [] c = refl
coefficient_some (a ∷ ts) c =
    ⊎_elim
    (λ some. rw some (ap (λ z. (if same_column a.column c then a.times else pos 0) +ℤ z) (coefficient_some ts c)))
    (λ none. rw none.0 (coefficient_some ts c ∙ sym (zero_add (coefficient ts c)) ∙ ap (λ z. z +ℤ coefficient ts c) (sym (if_none (same_column a.column c) a.times none.1))))
    (none_or_some a.times)

-- ---- a point costs at most what its fractions cost
module _ (m : Problem) (within : IsWithinLimits m) (p : Program) (costs : (c : Column) → IsColumn m c → slice_index_or p.costs (number_of m c - 1) 0 ≡ column_cost m c) where
  taken_most : (k : ℕ) → times_of (map (lp_term m false) (some_terms (objective m))) k ≤ℤ pos (slice_index_or p.costs (k - 1) 0)
  taken_most k =
      let ts = some_terms (objective m) in
      ⊎_elim
      (λ found.
      let c = found.0 in
      let times = times_are m false ts c within (objective_exists m) found.1 in
      omega (arith, linear, ap (times_of (map (lp_term m false) ts)) found.2, times, coefficient_some (objective m) c, costs_at_most m c, costs c found.1, ap (λ j. slice_index_or p.costs (j - 1) 0) found.2))
      (λ none. omega (arith, linear, none))
      (taken_or_not m ts k (objective_exists m))

  pub cost_most : AreAmong m (column_count p) → (x : ℕ → ℚ) → ((c : ℕ) → c < column_count p → zero_ℚ ≤ℚ x c) → (q : LinPoint) → HasFractions m x q → whole (pos (point_cost m q.values)) ≤ℚ whole (pos q.den) *ℚ cost_sum p x
  cost_most among x low q point =
      let ts = some_terms (objective m) in
      let total : whole (pos q.den) *ℚ sum_ℚ (column_count p) (λ c. whole (times_of (map (lp_term m false) ts) (c + 1)) *ℚ x c) ≡ whole (pos (point_cost m q.values)) =
      row_at_point m (column_count p) among x false q point ts (objective_exists m) ∙ ap whole (sum_some q.values (objective m) ∙ objective_at m q.values) in
      subst (λ z. z ≤ℚ whole (pos q.den) *ℚ cost_sum p x) total
      (O.mul_le rational_ordered (whole (pos q.den)) _ _ (whole-le (pos 0) (pos q.den) (omega (arith, linear)))
      (sum-le rational_ordered (column_count p) (λ c. whole (times_of (map (lp_term m false) ts) (c + 1)) *ℚ x c) (λ c. cost_at p c *ℚ x c) (λ c less. mul_le_right rational_ordered (x c) (whole (times_of (map (lp_term m false) ts) (c + 1))) (cost_at p c) (low c less)
      (subst (λ j. whole (times_of (map (lp_term m false) ts) (c + 1)) ≤ℚ whole (pos (slice_index_or p.costs j 0))) (back c) (whole-le (times_of (map (lp_term m false) ts) (c + 1)) (pos (slice_index_or p.costs (c + 1 - 1) 0)) (taken_most (c + 1)))))))
    where
      back : (c : ℕ) → c + 1 - 1 ≡ c
      back c = omega arith
