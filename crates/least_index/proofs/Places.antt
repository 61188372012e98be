-- The places of variables in a dictionary, and their coefficients.
use Rattle.std.proofs.Common.{◌≡◌, ◌≢◌, ◌<◌, ◌∙◌, ⊎_elim, ℕ, zero, suc, refl, sym, ap, arith, true, false}
use Rattle.std.proofs.lemmas.Bool.{both_ways, cases_eq}
use Rattle.std.specs.Prelude.{if◌then◌else◌, ◌==◌}
use Rattle.rational.proofs.Rationals.{rational_ring}
use Rattle.algebra.proofs.Sums.{sum-only, sum-zero}
use Rattle.tableau.specs.Program.{Program, zero_ℚ}
use Rattle.tableau.specs.Dictionary.{Dictionary, basic_at, cell, height, nonbasic_at, width}
use Rattle.tableau.specs.Meaning.{IsBasis, coefficient_at}
use Rattle.least_index.specs.Basis.{is_among, is_basic}
use Rattle.least_index.proofs.Numbers.{if_other, if_same}

-- ---- whether a number is one of the first so many
pub among_here : (n : ℕ) (f : ℕ → ℕ) (v i : ℕ) → i < n → f i ≡ v → is_among n f v ≡ true
among_here zero f v i less is = absurd (omega (arith, less))
among_here (suc n) f v i less is = ⊎_elim
    (λ here. if_same (f n) v true (is_among n f v) here)
    (λ other. if_other (f n) v true (is_among n f v) other ∙ ⊎_elim (λ same. absurd (other (ap f (sym same) ∙ is))) (λ apart. among_here n f v i (omega (arith, less, apart)) is) (cases_eq i n))
    (cases_eq (f n) v)

pub among_none : (n : ℕ) (f : ℕ → ℕ) (v : ℕ) → ((i : ℕ) → i < n → f i ≢ v) → is_among n f v ≡ false
among_none zero f v none = refl
among_none (suc n) f v none = if_other (f n) v true (is_among n f v) (none n (omega arith)) ∙ among_none n f v (λ i less. none i (omega (arith, less)))

pub among_place : (n : ℕ) (f : ℕ → ℕ) (v : ℕ) → is_among n f v ≡ true → (i : ℕ) × (i < n) × (f i ≡ v)
among_place zero f v basic = absurd (both_ways false refl basic)
among_place (suc n) f v basic = ⊎_elim
    (λ here. (n, omega arith, here))
    (λ other. let (i, less, is) = among_place n f v (sym (if_other (f n) v true (is_among n f v) other) ∙ basic) in (i, omega (arith, less), is))
    (cases_eq (f n) v)

pub among_apart : (n : ℕ) (f : ℕ → ℕ) (v i : ℕ) → is_among n f v ≡ false → i < n → f i ≢ v
among_apart n f v i absent less is = both_ways (is_among n f v) absent (among_here n f v i less is)

-- ---- a dictionary's variables
module _ (p : Program) (d : Dictionary) (names : IsBasis p d) where
  pub column_not_basic : (t : ℕ) → t < width d → is_basic d (nonbasic_at d t) ≡ false
  column_not_basic t high = among_none (height d) (basic_at d) (nonbasic_at d t) (λ i i_high. names.apart i t i_high high)

  pub row_basic : (i : ℕ) → i < height d → is_basic d (basic_at d i) ≡ true
  row_basic i high = among_here (height d) (basic_at d) (basic_at d i) i high refl

  -- the coefficient of a column's variable, and of a basic one
  pub column_coefficient : (i t : ℕ) → t < width d → coefficient_at d i (nonbasic_at d t) ≡ cell d i t
  column_coefficient i t high =
      sum-only rational_ring (width d) t (λ u. if nonbasic_at d u == nonbasic_at d t then cell d i u else zero_ℚ) high (λ u u_high apart. if_other (nonbasic_at d u) (nonbasic_at d t) (cell d i u) zero_ℚ (λ e. apart (names.columns_apart u t u_high high e)))
      ∙ if_same (nonbasic_at d t) (nonbasic_at d t) (cell d i t) zero_ℚ refl

  pub basic_coefficient : (i v : ℕ) → is_basic d v ≡ true → coefficient_at d i v ≡ zero_ℚ
  basic_coefficient i v basic =
      let (h, high, is) = among_place (height d) (basic_at d) v basic in
      sum-zero rational_ring (width d) (λ u. if nonbasic_at d u == v then cell d i u else zero_ℚ) (λ u u_high. if_other (nonbasic_at d u) v (cell d i u) zero_ℚ (λ e. names.apart h u high u_high (is ∙ sym e)))
