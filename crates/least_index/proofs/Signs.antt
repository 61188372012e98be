-- A variable that enters in one dictionary and leaves in another: the signs don't go together.
use Rattle.std.proofs.Common.{◌≡◌, ◌≢◌, ◌≤◌, ◌<◌, ◌+◌, ◌-◌, ◌∙◌, ⊎_elim, ℕ, refl, sym, ap, subst, arith, true}
use Rattle.std.proofs.lemmas.Bool.{cases_Bool, cases_eq}
use Rattle.std.specs.Prelude.{pos}
use Rattle.rational.specs.Rational.{ℚ, ◌+ℚ◌, ◌*ℚ◌, ◌≤ℚ◌}
use Rattle.rational.proofs.Rationals as Q
use Rattle.rational.proofs.Rationals.{rational_ring, rational_ordered}
use Rattle.algebra.proofs.Rings.{con, ◌⊕◌}
use Rattle.algebra.proofs.Claims.{le3, so, from, from_same}
use Rattle.algebra.proofs.Sums.{sum-le, sum-zero}
use Rattle.tableau.specs.Program.{Program, sum_ℚ, zero_ℚ}
use Rattle.tableau.specs.Dictionary.{Dictionary, basic_at, cell, height, nonbasic_at, width}
use Rattle.tableau.specs.Meaning.{IsDictionaryOf}
use Rattle.tableau.specs.Run.{IsCandidate, IsLeastIndex, IsLeaving, ratio_at}
use Rattle.least_index.specs.Basis.{is_basic, variable_count}
use Rattle.least_index.proofs.Numbers.{high_low, is_negative, is_positive, low_high, negative_le, positive_le, sum_front, times_zero, zero_divided}
use Rattle.least_index.proofs.Places.{among_place}
use Rattle.least_index.proofs.Bases.{constant_term, edge, point_basic, point_other, row_at_point}

-- in the second dictionary the variable enters in row k and column j, and in the first it leaves
pub record AreOpposed (p : Program) (d e : Dictionary) (out k j : ℕ) : Type 0 where
  pub old : IsDictionaryOf p d
  pub new : IsDictionaryOf p e
  pub leaving : IsLeaving d out
  pub chosen : IsLeastIndex e k j
  pub same : basic_at d out ≡ nonbasic_at e j
  -- it has no reduced cost, and the variable that leaves the second has no greater number
  pub none : cell e 0 j ≡ zero_ℚ
  pub before : basic_at e k ≤ nonbasic_at e j
  -- nor have the variables that are basic in the first alone, and no greater numbers either
  pub others_before : (t : ℕ) → 1 ≤ t → t < width e → is_basic d (nonbasic_at e t) ≡ true → nonbasic_at e t ≤ nonbasic_at e j
  pub others_none : (t : ℕ) → 1 ≤ t → t < width e → is_basic d (nonbasic_at e t) ≡ true → cell e 0 t ≡ zero_ℚ

module _ (p : Program) (d e : Dictionary) (out k j : ℕ) (opposed : AreOpposed p d e out k j) where
  open opposed use {old, new, leaving, chosen, same, none, before, others_before, others_none}

  abbrev at : ℕ → ℚ
  at = edge d 0

  -- at the first one's point, a variable of a smaller number isn't negative
  smaller : (v : ℕ) → 1 ≤ v → v ≤ variable_count p → v < nonbasic_at e j → zero_ℚ ≤ℚ at v
  smaller v low high less = ⊎_elim
      (λ basic.
      let (i, i_high, is) = among_place (height d) (basic_at d) v basic in
      let some : i ≢ 0 = λ first. omega (arith, ap (basic_at d) first, is, old.names.cost, high) in
      let value : at v ≡ cell d i 0 = ap at (sym is) ∙ point_basic p d e old new i i_high in
      subst (λ x. zero_ℚ ≤ℚ x) (sym value) (⊎_elim (λ le. le) (λ negative. absurd (omega (arith, leaving.least i (omega (arith, some)) i_high negative, is, same, less))) (is_negative (cell d i 0))))
      (λ absent. subst (λ x. zero_ℚ ≤ℚ x) (sym (point_other p d e old new v low absent)) (Q.le_refl zero_ℚ))
      (cases_Bool (is_basic d v))

  own : at (nonbasic_at e j) ≤ℚ zero_ℚ
  own = subst (λ x. x ≤ℚ zero_ℚ) (sym (ap at (sym same) ∙ point_basic p d e old new out leaving.high)) (negative_le (cell d out 0) leaving.negative)

  -- the row's coefficient of a variable that is basic in the first alone
  coefficient_low : (t : ℕ) → 1 ≤ t → t < width e → t ≢ j → is_basic d (nonbasic_at e t) ≡ true → cell e k t ≤ℚ zero_ℚ
  coefficient_low t low high apart basic = ⊎_elim (λ le. le)
      (λ positive.
      let candidate : IsCandidate e k t = record { low = low; high = high; positive = positive } in
      let tie : ratio_at e k j ≡ ratio_at e k t = zero_divided (cell e 0 j) (cell e k j) none ∙ sym (zero_divided (cell e 0 t) (cell e k t) (others_none t low high basic)) in
      let differ : nonbasic_at e t ≢ nonbasic_at e j = λ is. apart (new.names.columns_apart t j high chosen.entering.candidate.high is) in
      absurd (omega (arith, chosen.entering.ties t candidate tie, others_before t low high basic, differ)))
      (is_positive (cell e k t))

  term_low : (t : ℕ) → 1 ≤ t → t < width e → (cell e k t *ℚ at (nonbasic_at e t)) ≤ℚ zero_ℚ
  term_low t low high = ⊎_elim here there (cases_eq t j)
    where
      here : t ≡ j → (cell e k t *ℚ at (nonbasic_at e t)) ≤ℚ zero_ℚ
      here is = subst (λ u. (cell e k u *ℚ at (nonbasic_at e u)) ≤ℚ zero_ℚ) (sym is) (high_low (cell e k j) (at (nonbasic_at e j)) (positive_le (cell e k j) chosen.entering.candidate.positive) own)

      v_low : 1 ≤ nonbasic_at e t
      v_low = new.names.nonbasics_low t low high

      there : t ≢ j → (cell e k t *ℚ at (nonbasic_at e t)) ≤ℚ zero_ℚ
      there apart = ⊎_elim
          (λ basic.
          let differ : nonbasic_at e t ≢ nonbasic_at e j = λ is. apart (new.names.columns_apart t j high chosen.entering.candidate.high is) in
          low_high (cell e k t) (at (nonbasic_at e t)) (coefficient_low t low high apart basic)
          (smaller (nonbasic_at e t) v_low (omega (arith, new.names.nonbasics_high t high)) (omega (arith, others_before t low high basic, differ))))
          (λ absent. subst (λ x. x ≤ℚ zero_ℚ) (sym (times_zero (cell e k t) (at (nonbasic_at e t)) (point_other p d e old new (nonbasic_at e t) v_low absent))) (Q.le_refl zero_ℚ))
          (cases_Bool (is_basic d (nonbasic_at e t)))

  abbrev rest : ℕ → ℚ
  rest u = cell e k (u + 1) *ℚ at (nonbasic_at e (u + 1))

  rest_low : (n : ℕ) → n + 1 ≡ width e → sum_ℚ n rest ≤ℚ zero_ℚ
  rest_low n size = subst (λ x. sum_ℚ n rest ≤ℚ x) (sum-zero rational_ring n (λ u. zero_ℚ) (λ u less. refl)) (sum-le rational_ordered n rest (λ u. zero_ℚ) (λ u less. term_low (u + 1) (omega arith) (omega (arith, less, size))))

  -- the value of the variable that leaves the second, at the first one's point
  out_value : (n : ℕ) → n + 1 ≡ width e → at (basic_at e k) ≡ cell e k 0 +ℚ sum_ℚ n rest
  out_value n size =
      row_at_point p d e old new k chosen.leaving.high ∙ ap (λ m. sum_ℚ m (λ t. cell e k t *ℚ at (nonbasic_at e t))) (sym size)
      ∙ sum_front n (λ t. cell e k t *ℚ at (nonbasic_at e t)) ∙ ap (λ x. x +ℚ sum_ℚ n rest) (constant_term p d e old new k)

  out_high : zero_ℚ ≤ℚ at (basic_at e k)
  out_high =
      let differ : basic_at e k ≢ nonbasic_at e j = new.names.apart k j chosen.leaving.high chosen.entering.candidate.high in
      smaller (basic_at e k) (new.names.basics_low k chosen.leaving.high) (omega (arith, new.names.basics_high k chosen.leaving.low chosen.leaving.high)) (omega (arith, before, differ))

  pub opposed_not : ⊥
  opposed_not =
      let size : width e - 1 + 1 ≡ width e = omega (arith, new.names.columns) in
      chosen.leaving.negative (le3 rational_ordered (λ x c s. from 1 (con (pos 0)) x (from 1 s (con (pos 0)) (from_same (con (pos 1)) x (c ⊕ s) (so (con (pos 0)) c)))) refl (at (basic_at e k)) (cell e k 0) (sum_ℚ (width e - 1) rest) out_high (rest_low (width e - 1) size) (out_value (width e - 1) size))
