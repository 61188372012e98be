-- Dictionaries of one program and one basis have the same numbers.
use Rattle.std.proofs.Common.{◌≡◌, ◌≢◌, ◌≤◌, ◌<◌, ◌∙◌, ⊎_elim, ℕ, refl, sym, ap, arith, false}
use Rattle.std.proofs.lemmas.Bool.{cases_eq}
use Rattle.std.specs.Prelude.{pos, if◌then◌else◌, ◌==◌}
use Rattle.rational.specs.Rational.{ℚ, whole, ◌*ℚ◌}
use Rattle.rational.proofs.Rationals.{rational_ring}
use Rattle.algebra.proofs.Sums.{sum-only, sum-zero}
use Rattle.tableau.specs.Program.{Program, sum_ℚ, zero_ℚ}
use Rattle.tableau.specs.Dictionary.{Dictionary, Solves, basic_at, cell, height, nonbasic_at, width}
use Rattle.tableau.specs.Meaning.{IsBasis, IsDictionaryOf}
use Rattle.least_index.specs.Basis.{HasSameBasis, is_basic}
use Rattle.least_index.specs.Laws.{BasesHaveOneDictionary}
use Rattle.least_index.proofs.Numbers.{if_other, if_same, times_one, times_zero}
use Rattle.least_index.proofs.Places.{among_apart, among_none, column_not_basic}

-- the values where a column's variable is 1 and the other nonbasic ones are 0; those of the constants' column are the
-- dictionary's point
abbrev pub edge : Dictionary → ℕ → ℕ → ℚ
edge d t v = if v == nonbasic_at d t then whole (pos 1) else sum_ℚ (height d) (λ i. if basic_at d i == v then cell d i t else zero_ℚ)

module _ (p : Program) (d : Dictionary) (names : IsBasis p d) (t : ℕ) (t_high : t < width d) where
  pub edge_basic : (i : ℕ) → i < height d → edge d t (basic_at d i) ≡ cell d i t
  edge_basic i high =
      if_other (basic_at d i) (nonbasic_at d t) (whole (pos 1)) _ (names.apart i t high t_high)
      ∙ sum-only rational_ring (height d) i (λ h. if basic_at d h == basic_at d i then cell d h t else zero_ℚ) high (λ h h_high apart. if_other (basic_at d h) (basic_at d i) (cell d h t) zero_ℚ (λ e. apart (names.rows_apart h i h_high high e)))
      ∙ if_same (basic_at d i) (basic_at d i) (cell d i t) zero_ℚ refl

  pub edge_own : (v : ℕ) → v ≡ nonbasic_at d t → edge d t v ≡ whole (pos 1)
  edge_own v is = if_same v (nonbasic_at d t) (whole (pos 1)) _ is

  pub edge_other : (v : ℕ) → v ≢ nonbasic_at d t → is_basic d v ≡ false → edge d t v ≡ zero_ℚ
  edge_other v apart absent =
      if_other v (nonbasic_at d t) (whole (pos 1)) _ apart
      ∙ sum-zero rational_ring (height d) (λ h. if basic_at d h == v then cell d h t else zero_ℚ) (λ h high. if_other (basic_at d h) v (cell d h t) zero_ℚ (among_apart (height d) (basic_at d) v h absent high))

-- in a dictionary whose nonbasic variables are not basic in the first, a row's value at these values is a cell
row_at_edge : (p : Program) (d e : Dictionary) → IsBasis p d → IsBasis p e → ((w : ℕ) → w < width e → is_basic d (nonbasic_at e w) ≡ false) → (t u i : ℕ) → t < width d → u < width e → nonbasic_at e u ≡ nonbasic_at d t → sum_ℚ (width e) (λ w. cell e i w *ℚ edge d t (nonbasic_at e w)) ≡ cell e i u
row_at_edge p d e old new absent t u i t_high u_high same =
    sum-only rational_ring (width e) u (λ w. cell e i w *ℚ edge d t (nonbasic_at e w)) u_high
    (λ w w_high apart. times_zero (cell e i w) (edge d t (nonbasic_at e w)) (edge_other p d old t t_high (nonbasic_at e w) (λ is. apart (new.columns_apart w u w_high u_high (is ∙ sym same))) (absent w w_high)))
    ∙ times_one (cell e i u) (edge d t (nonbasic_at e u)) (edge_own p d old t t_high (nonbasic_at e u) same)

pub edge_solves : (p : Program) (d : Dictionary) → IsBasis p d → (t : ℕ) → t < width d → Solves d (edge d t)
edge_solves p d names t t_high i high = edge_basic p d names t t_high i high ∙ sym (row_at_edge p d d names names (λ w w_high. column_not_basic p d names w w_high) t t i t_high t_high refl)

not_basic : (p : Program) (d e : Dictionary) → IsBasis p d → IsBasis p e → HasSameBasis p d e → (w : ℕ) → w < width e → is_basic d (nonbasic_at e w) ≡ false
not_basic p d e old new same w high = ⊎_elim
    (λ first. among_none (height d) (basic_at d) (nonbasic_at e w) (λ i i_high is. omega (arith, old.basics_low i i_high, is, ap (nonbasic_at e) first, new.constants)))
    (λ some.
    let low : 1 ≤ nonbasic_at e w = new.nonbasics_low w (omega (arith, some)) high in
    same (nonbasic_at e w) low (omega (arith, new.nonbasics_high w high)) ∙ column_not_basic p e new w high)
    (cases_eq w 0)

pub one_dictionary : BasesHaveOneDictionary
one_dictionary p d e old new same i t h u i_high t_high h_high u_high row column =
    sym (row_at_edge p d e old.names new.names (not_basic p d e old.names new.names same) t u h t_high u_high column)
    ∙ sym (new.same.solves (edge d t) (old.same.meets (edge d t) (edge_solves p d old.names t t_high)) h h_high)
    ∙ ap (edge d t) row ∙ edge_basic p d old.names t t_high i i_high

module _ (p : Program) (d e : Dictionary) (old : IsDictionaryOf p d) (new : IsDictionaryOf p e) where
  -- of the same basis, the same value
  pub same_value : HasSameBasis p d e → cell d 0 0 ≡ cell e 0 0
  same_value same = sym (one_dictionary p d e old new same 0 0 0 0
      (omega (arith, old.names.rows)) (omega (arith, old.names.columns)) (omega (arith, new.names.rows)) (omega (arith, new.names.columns))
      (new.names.cost ∙ sym old.names.cost) (new.names.constants ∙ sym old.names.constants))

  -- ---- a row of the second at the first one's point
  pub row_at_point : (i : ℕ) → i < height e → edge d 0 (basic_at e i) ≡ sum_ℚ (width e) (λ t. cell e i t *ℚ edge d 0 (nonbasic_at e t))
  row_at_point i high = new.same.solves (edge d 0) (old.same.meets (edge d 0) (edge_solves p d old.names 0 (omega (arith, old.names.columns)))) i high

  pub constant_term : (i : ℕ) → cell e i 0 *ℚ edge d 0 (nonbasic_at e 0) ≡ cell e i 0
  constant_term i = times_one (cell e i 0) (edge d 0 (nonbasic_at e 0)) (edge_own p d old.names 0 (omega (arith, old.names.columns)) (nonbasic_at e 0) (new.names.constants ∙ sym old.names.constants))

  pub point_basic : (i : ℕ) → i < height d → edge d 0 (basic_at d i) ≡ cell d i 0
  point_basic i high = edge_basic p d old.names 0 (omega (arith, old.names.columns)) i high

  pub point_other : (v : ℕ) → 1 ≤ v → is_basic d v ≡ false → edge d 0 v ≡ zero_ℚ
  point_other v low absent = edge_other p d old.names 0 (omega (arith, old.names.columns)) v (λ is. omega (arith, is, low, old.names.constants)) absent
