-- What a pivot by the least-index rule changes.
use Rattle.std.proofs.Common.{◌≡◌, ◌≢◌, ◌≤◌, ◌<◌, ◌∙◌, ⊎_elim, ℕ, refl, sym, ap, subst, arith, true, false}
use Rattle.std.proofs.lemmas.Bool.{cases_eq}
use Rattle.std.specs.Prelude.{pos, if◌then◌else◌, ◌==◌}
use Rattle.rational.specs.Rational.{ℚ, inv_ℚ, ◌*ℚ◌, ◌-ℚ◌, ◌≤ℚ◌}
use Rattle.rational.proofs.Rationals as Q
use Rattle.rational.proofs.Rationals.{rational_ring, rational_ordered}
use Rattle.algebra.proofs.Rings.{con, ◌⊖◌, ◌⊗◌, ◌⊜◌, ring2}
use Rattle.algebra.proofs.Claims.{le3, same3, so, from, from_times}
use Rattle.algebra.proofs.Sums.{sum-same}
use Rattle.tableau.specs.Program.{Program, sum_ℚ, zero_ℚ}
use Rattle.tableau.specs.Dictionary.{Dictionary, basic_at, cell, factor_at, height, nonbasic_at, width}
use Rattle.tableau.specs.Meaning.{IsDictionaryOf, coefficient_at}
use Rattle.tableau.specs.Run.{IsLeastIndex, IsStep}
use Rattle.least_index.specs.Basis.{is_basic, variable_count}
use Rattle.least_index.proofs.Numbers.{cancel_zero, inverse_le, negative_le, negative_some, positive_some, undivided}
use Rattle.least_index.proofs.Places.{among_apart, among_here, among_none, among_place, column_not_basic, row_basic}

module _ (p : Program) (d e : Dictionary) (old : IsDictionaryOf p d) (step : IsStep IsLeastIndex d e) where
  open step use {row, column, chosen, pivoted}

  abbrev pub entering : ℕ
  entering = nonbasic_at d column

  abbrev pub leaving : ℕ
  leaving = basic_at d row

  abbrev row_low : 1 ≤ row
  row_low = chosen.leaving.low

  abbrev row_high : row < height d
  row_high = chosen.leaving.high

  abbrev column_low : 1 ≤ column
  column_low = chosen.entering.candidate.low

  abbrev column_high : column < width d
  column_high = chosen.entering.candidate.high

  -- ---- the variables that enter and leave
  pub entering_low : 1 ≤ entering
  entering_low = old.names.nonbasics_low column column_low column_high

  pub entering_high : entering ≤ variable_count p
  entering_high = omega (arith, old.names.nonbasics_high column column_high)

  pub leaving_low : 1 ≤ leaving
  leaving_low = old.names.basics_low row row_high

  pub leaving_high : leaving ≤ variable_count p
  leaving_high = omega (arith, old.names.basics_high row row_low row_high)

  pub entering_before : is_basic d entering ≡ false
  entering_before = column_not_basic p d old.names column column_high

  pub leaving_before : is_basic d leaving ≡ true
  leaving_before = row_basic p d old.names row row_high

  pub entered : is_basic e entering ≡ true
  entered = among_here (height e) (basic_at e) entering row (omega (arith, row_high, pivoted.rows)) pivoted.entered

  pub left : is_basic e leaving ≡ false
  left = among_none (height e) (basic_at e) leaving none
    where
      none : (i : ℕ) → i < height e → basic_at e i ≢ leaving
      none i high same =
          let i_high : i < height d = omega (arith, high, pivoted.rows) in
          ⊎_elim
          (λ is. old.names.apart row column row_high column_high (sym same ∙ ap (basic_at e) is ∙ pivoted.entered))
          (λ apart. apart (old.names.rows_apart i row i_high row_high (sym (pivoted.basics i i_high apart) ∙ same)))
          (cases_eq i row)

  pub who_entered : (v : ℕ) → is_basic d v ≡ false → is_basic e v ≡ true → entering ≡ v
  who_entered v before after =
      let (i, high, is) = among_place (height e) (basic_at e) v after in
      ⊎_elim
      (λ same. sym pivoted.entered ∙ ap (basic_at e) (sym same) ∙ is)
      (λ apart. absurd (among_apart (height d) (basic_at d) v i before (omega (arith, high, pivoted.rows)) (sym (pivoted.basics i (omega (arith, high, pivoted.rows)) apart) ∙ is)))
      (cases_eq i row)

  pub who_left : (v : ℕ) → is_basic d v ≡ true → is_basic e v ≡ false → leaving ≡ v
  who_left v before after =
      let (i, high, is) = among_place (height d) (basic_at d) v before in
      ⊎_elim
      (λ same. ap (basic_at d) (sym same) ∙ is)
      (λ apart. absurd (among_apart (height e) (basic_at e) v i after (omega (arith, high, pivoted.rows)) (pivoted.basics i high apart ∙ is)))
      (cases_eq i row)

  -- ---- the value and the reduced costs
  abbrev factor : ℚ
  factor = factor_at d row column 0

  factor_low : zero_ℚ ≤ℚ factor
  factor_low = Q.mul_nonneg (cell d 0 column) (inv_ℚ (cell d row column)) (old.dual column column_low column_high) (inverse_le (cell d row column) chosen.entering.candidate.positive)

  new_value : cell e 0 0 ≡ cell d 0 0 -ℚ factor *ℚ cell d row 0
  new_value = pivoted.others 0 0 (omega (arith, row_high)) (omega (arith, column_high)) (omega (arith, row_low)) (omega (arith, column_low))

  pub value_rises : cell d 0 0 ≤ℚ cell e 0 0
  value_rises = subst (λ x. cell d 0 0 ≤ℚ x) (sym new_value)
      (le3 rational_ordered (λ v f c. from_times f c (con (pos 0)) (so v (v ⊖ f ⊗ c))) refl (cell d 0 0) factor (cell d row 0) factor_low (negative_le (cell d row 0) chosen.leaving.negative))

  module _ (same : cell d 0 0 ≡ cell e 0 0) where
    no_factor : factor ≡ zero_ℚ
    no_factor = cancel_zero factor (cell d row 0) (negative_some (cell d row 0) chosen.leaving.negative)
        (same3 rational_ring (λ v w x. from (con (pos 1)) v w (from (con (pos 1)) w (v ⊖ x) (so x (con (pos 0))))) refl (cell d 0 0) (cell e 0 0) (factor *ℚ cell d row 0) same new_value)

    pub no_reduced_cost : cell d 0 column ≡ zero_ℚ
    no_reduced_cost = undivided (cell d 0 column) (cell d row column) (positive_some (cell d row column) chosen.entering.candidate.positive) no_factor

    pub same_reduced_costs : (v : ℕ) → coefficient_at e 0 v ≡ coefficient_at d 0 v
    same_reduced_costs v =
        ap (λ n. sum_ℚ n (term e)) pivoted.columns ∙ sum-same rational_ring (width d) (term e) (term d) (λ t high. ⊎_elim (here t) (there t high) (cases_eq t column))
      where
        term : Dictionary → ℕ → ℚ
        term f t = if nonbasic_at f t == v then cell f 0 t else zero_ℚ

        if_zero : (a : ℕ) (x : ℚ) → x ≡ zero_ℚ → (if a == v then x else zero_ℚ) ≡ zero_ℚ
        if_zero a x is = grind (arith, is)

        here : (t : ℕ) → t ≡ column → term e t ≡ term d t
        here t is =
            ap (term e) is ∙ if_zero (nonbasic_at e column) (cell e 0 column) (pivoted.pivot_column 0 (omega (arith, row_high)) (omega (arith, row_low)) ∙ no_factor)
            ∙ sym (if_zero (nonbasic_at d column) (cell d 0 column) no_reduced_cost) ∙ ap (term d) (sym is)

        there : (t : ℕ) → t < width d → t ≢ column → term e t ≡ term d t
        there t high apart =
            ap (λ n. if n == v then cell e 0 t else zero_ℚ) (pivoted.nonbasics t high apart)
            ∙ ap (λ x. if nonbasic_at d t == v then x else zero_ℚ)
            (pivoted.others 0 t (omega (arith, row_high)) high (omega (arith, row_low)) apart ∙ ap (λ f. cell d 0 t -ℚ f *ℚ cell d row t) no_factor
            ∙ ring2 rational_ring (λ a b. a ⊖ con (pos 0) ⊗ b ⊜ a) refl (cell d 0 t) (cell d row t))
