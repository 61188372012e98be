-- What multipliers of rows prove of points: a bound of the cost, or that there is none.
use Rattle.std.proofs.Common.{◌≡◌, ◌∙◌, ◌⊎◌, ⊎_elim, inl, inr, ℕ, refl, sym, ap, subst, arith, Bool, true, false, List, [], ◌∷◌}
use Rattle.std.specs.Prelude.{if◌then◌else◌, ◌≤◌, ◌<◌, ℤ, pos, ◌+ℤ◌, ◌*ℤ◌, ◌≤ℤ◌, ◌<ℤ◌}
use Rattle.std.specs.List.{All}
use Rattle.std.proofs.lemmas.Bool.{cases_Bool, cases_lt}
use Rattle.std.proofs.lemmas.List.Elements.{All-head, All-tail}
use Rattle.algebra.proofs.Integers.{mul_one, mul_zero, zero_add}
use Rattle.algebra.proofs.Order.{linear, mul_le, mul_nonneg, mul_pos}
use Rattle.lot_sizing.specs.Problem.{Problem, item_at, item_count}
use Rattle.lot_sizing.specs.Plan.{Plan, IsFeasible, cost}
use Rattle.lin_rows.specs.declared.column.Column.{Column}
use Rattle.lin_rows.specs.declared.column.Column.TheVariants.{X, Y, S, R}
use Rattle.lin_rows.specs.declared.row.Term.{Term}
use Rattle.lin_rows.specs.Columns.{IsColumn, column_cost, value_in}
use Rattle.lin_rows.specs.Combining.{AllHold, AreOfProblem, AreSigned, AreWithinCosts, column_sum, right_sum, sum_of}
use Rattle.lin_rows.specs.Costs.{point_cost}
use Rattle.lin_rows.specs.Rows.{LinPoint, LinRow, sum_at, whole_point}
use Rattle.lin_rows.specs.Sums.{coefficient, has_column_for, same_column}
use Rattle.lin_rows.proofs.Below.{one_by_parts}
use Rattle.lin_rows.proofs.Cells.{in_is, is_in}
use Rattle.lin_rows.proofs.Combined.{sums_hold_at}
use Rattle.lin_rows.proofs.Objective.{costs_at_least, nonneg, objective, objective_at, plan_costs, some_or_none}

-- a column that the problem doesn't have
absent : (m : Problem) (ts : List Term) (c : Column) → All (λ a. IsColumn m a.column) ts → (IsColumn m c → ⊥) → coefficient ts c ≡ pos 0
absent m [] c each lacks = refl
absent m (a ∷ ts) c each lacks =
    let P = λ (b : Term). IsColumn m b.column in
    ⊎_elim
    (λ same. absurd (lacks (subst (IsColumn m) (one_by_parts a.column c same) (All-head P a ts each))))
    (λ apart. ap (λ b. (if b then a.times else pos 0) +ℤ coefficient ts c) apart ∙ zero_add (coefficient ts c) ∙ absent m ts c (All-tail P a ts each) lacks)
    (cases_Bool (same_column a.column c))

absent_sum : (m : Problem) (rows : List LinRow) (times : List ℤ) (c : Column) → AreOfProblem m rows → (IsColumn m c → ⊥) → column_sum rows times c ≡ pos 0
absent_sum m [] times c each lacks = refl
absent_sum m (r ∷ rows) [] c each lacks = refl
absent_sum m (r ∷ rows) (z ∷ times) c each lacks =
    ap (λ y. z *ℤ y +ℤ sum_of rows times (λ s. coefficient s.terms c)) (absent m r.terms c each.0 lacks)
    ∙ ap (λ y. y +ℤ sum_of rows times (λ s. coefficient s.terms c)) (mul_zero z) ∙ zero_add (sum_of rows times (λ s. coefficient s.terms c)) ∙ absent_sum m rows times c each.1 lacks

-- whether the problem has a column
has_or_not : (m : Problem) (c : Column) → IsColumn m c ⊎ (IsColumn m c → ⊥)
has_or_not m (X i t) = ⊎_elim (λ yes. inl (is_in (item_count m) m.periods (X i t) yes)) (λ no. inr (λ is. cc (sym no ∙ in_is (item_count m) m.periods (X i t) is))) (cases_Bool (has_column_for (item_count m) m.periods (X i t)))
has_or_not m (Y i t) = ⊎_elim (λ yes. inl (is_in (item_count m) m.periods (Y i t) yes)) (λ no. inr (λ is. cc (sym no ∙ in_is (item_count m) m.periods (Y i t) is))) (cases_Bool (has_column_for (item_count m) m.periods (Y i t)))
has_or_not m (S i t) = ⊎_elim (λ yes. inl (is_in (item_count m) m.periods (S i t) yes)) (λ no. inr (λ is. cc (sym no ∙ in_is (item_count m) m.periods (S i t) is))) (cases_Bool (has_column_for (item_count m) m.periods (S i t)))
has_or_not m (R i t) =
    ⊎_elim
    (λ yes. ⊎_elim
    (λ before. ⊎_elim
    (λ some. inl (is_in (item_count m) m.periods (R i t) yes, before, some))
    (λ none. inr (λ is. cc (sym none ∙ is.2)))
    (some_or_none (item_at m i).backlog_cost))
    (λ last. inr (λ is. omega (arith, last, is.1)))
    (cases_lt t m.periods))
    (λ no. inr (λ is. cc (sym no ∙ in_is (item_count m) m.periods (R i t) is.0)))
    (cases_Bool (has_column_for (item_count m) m.periods (R i t)))

pub sums_bound_at : (m : Problem) (rows : List LinRow) (times : List ℤ) (den : ℕ) → AreSigned rows times → AreOfProblem m rows → AreWithinCosts m rows times den → (q : LinPoint) → AllHold q rows → (right_sum rows times *ℤ pos q.den) ≤ℤ (pos den *ℤ pos (point_cost m q.values))
sums_bound_at m rows times den signed of within q hold =
    let den_some : pos 0 ≤ℤ pos den = omega (arith, linear) in
    let most : (c : Column) → column_sum rows times c ≤ℤ (pos den *ℤ coefficient (objective m) c) = λ c. ⊎_elim
    (λ has. omega (arith, linear, within c has, mul_le (pos den) (pos (column_cost m c)) (coefficient (objective m) c) den_some (costs_at_least m c has)))
    (λ no. omega (arith, linear, absent_sum m rows times c of no, mul_nonneg (pos den) (coefficient (objective m) c) den_some (nonneg m c)))
    (has_or_not m c) in
    omega (arith, linear, sums_hold_at rows times den (objective m) signed most q hold, ap (λ z. pos den *ℤ z) (objective_at m q.values))

pub sums_bound_plans : (m : Problem) (rows : List LinRow) (times : List ℤ) (den : ℕ) → AreSigned rows times → AreOfProblem m rows → AreWithinCosts m rows times den → (p : Plan) → IsFeasible m p → AllHold (whole_point (value_in p)) rows → right_sum rows times ≤ℤ (pos den *ℤ pos (cost m p))
sums_bound_plans m rows times den signed of within p f hold =
    omega (arith, linear, sums_bound_at m rows times den signed of within (whole_point (value_in p)) hold, mul_one (right_sum rows times), ap (λ n. pos den *ℤ pos n) (plan_costs m p f))

pub sums_refute_at : (m : Problem) (rows : List LinRow) (times : List ℤ) → AreSigned rows times → AreOfProblem m rows → ((c : Column) → IsColumn m c → column_sum rows times c ≤ℤ pos 0) → pos 0 <ℤ right_sum rows times → (q : LinPoint) → AllHold q rows → ⊥
sums_refute_at m rows times signed of none some q hold =
    let most : (c : Column) → column_sum rows times c ≤ℤ (pos 1 *ℤ coefficient [] c) = λ c. ⊎_elim
    (λ has. omega (arith, linear, none c has))
    (λ no. omega (arith, linear, absent_sum m rows times c of no))
    (has_or_not m c) in
    let positive = mul_pos (right_sum rows times) (pos q.den) some (omega (arith, linear, q.positive)) in
    omega (arith, linear, sums_hold_at rows times 1 [] signed most q hold, positive)
