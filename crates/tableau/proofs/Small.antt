-- Small numbers never fail to fit.
use Rattle.std.proofs.Common.{◌≤◌, ◌<◌, ◌*◌, ◌^◌, ⊎_elim, ℕ, zero, suc, sym, subst, arith}
use Rattle.std.specs.Prelude.{ℤ, pos, negsuc, neg_ℤ, ◌*ℤ◌, ◌-ℤ◌, unsigned_abs}
use Rattle.std.proofs.lemmas.Int.{ints, unsigned_abs-mul}
use Rattle.std.proofs.lemmas.Nat.{mul-lt}
use native.Mathlib.Nat.{div-le_self}
use Rattle.algebra.proofs.Lowest.{abs_div}
use Rattle.algebra.proofs.Divisors.{euclid}
use Rattle.rational.specs.Rational.{ℚ, make, whole, inv_ℚ, neg_ℚ, upside_down, ◌*ℚ◌, ◌-ℚ◌}
use Rattle.rational.specs.Rational as R
use Rattle.frac128.specs.Limits.{divided_ℚ, Fits, IsSmall, SumFits, gcd_of, own_part}
use Rattle.tableau.specs.Dictionary.{Dictionary, cell, factor_at, height, width}
use Rattle.tableau.specs.Run.{IsCandidate, OtherFits, RatioFits, RowFits, UpdateFits, ratio_at}
use Rattle.tableau.specs.Outcomes.{IsRefused}
use Rattle.tableau.specs.Laws.{HasSmallCells, IsTiny}

-- numerator and denominator below bounds
record IsBetween (x : ℚ) (a b : ℕ) : Type 0 where
  num : unsigned_abs x.num < a
  den : unsigned_abs x.den < b

make_within : (n d : ℤ) (a b : ℕ) → unsigned_abs n < a → unsigned_abs d < b → 2 ≤ b → IsBetween (make n d) a b
unfolding make
make_within n (pos (suc k)) a b num den two =
    let g = (euclid (unsigned_abs n) (suc k)).0 in
    record {
      num = omega (arith, abs_div n g, div-le_self (unsigned_abs n) g, num);
      den = omega (arith, abs_div (pos (suc k)) g, div-le_self (suc k) g, den);
    }
make_within n (pos zero) a b num den two = record { num = omega (arith, num); den = omega (arith, two) }
make_within n (negsuc k) a b num den two = record { num = omega (arith, num); den = omega (arith, two) }

times_within : (x y : ℚ) (a b c d : ℕ) → IsBetween x a b → IsBetween y c d → 2 ≤ b * d → IsBetween (x *ℚ y) (a * c) (b * d)
unfolding R.◌*ℚ◌
times_within x y a b c d p q two =
    make_within (x.num *ℤ y.num) (x.den *ℤ y.den) (a * c) (b * d)
    (subst (λ k. k < a * c) (sym (unsigned_abs-mul x.num y.num)) (mul-lt (unsigned_abs x.num) (unsigned_abs y.num) a c p.num q.num))
    (subst (λ k. k < b * d) (sym (unsigned_abs-mul x.den y.den)) (mul-lt (unsigned_abs x.den) (unsigned_abs y.den) b d p.den q.den)) two

upside_within : (n d : ℤ) (a b : ℕ) → unsigned_abs n < a → unsigned_abs d < b → 2 ≤ a → IsBetween (upside_down n d) b a
upside_within (pos n) d a b num den two = make_within d (pos n) b a den num two
upside_within (negsuc n) d a b num den two = make_within (neg_ℤ d) (pos (suc n)) b a (omega (arith, ints, den)) (omega (arith, num)) two

inv_within : (x : ℚ) (a b : ℕ) → IsBetween x a b → 2 ≤ a → IsBetween (inv_ℚ x) b a
unfolding R.inv_ℚ
inv_within x a b p two = upside_within x.num x.den a b p.num p.den two

neg_within : (x : ℚ) (a b : ℕ) → IsBetween x a b → 2 ≤ b → IsBetween (neg_ℚ x) a b
unfolding R.neg_ℚ
neg_within x a b p two = make_within (neg_ℤ x.num) x.den a b (omega (arith, ints, p.num)) p.den two

fits_within : (x : ℚ) (a b : ℕ) → IsBetween x a b → a ≤ 2 ^ 127 → b ≤ 2 ^ 127 → Fits x
fits_within x a b p num den = record { num = omega (arith, p.num, num); den = omega (arith, p.den, den) }

own_within : (b d : ℤ) (n : ℕ) → unsigned_abs b < n → unsigned_abs (own_part b d) < n
own_within b d n small =
    let g = gcd_of (unsigned_abs b) (unsigned_abs d) in
    omega (arith, abs_div b g, div-le_self (unsigned_abs b) g, small)

step_within : (u v w : ℤ) (a b : ℕ) → unsigned_abs u < a → unsigned_abs v < b → unsigned_abs (u *ℤ own_part v w) < a * b
step_within u v w a b left right = subst (λ k. k < a * b) (sym (unsigned_abs-mul u (own_part v w))) (mul-lt (unsigned_abs u) (unsigned_abs (own_part v w)) a b left (own_within v w b right))

difference_within : (u v : ℤ) → unsigned_abs u < 2 ^ 124 → unsigned_abs v < 2 ^ 124 → IsSmall (u -ℤ v)
difference_within u v a b = omega (arith, ints, a, b)

difference_fits : (x y : ℚ) → IsBetween x (2 ^ 31) (2 ^ 31) → IsBetween y (2 ^ 93) (2 ^ 93) → SumFits ◌-ℤ◌ x y
difference_fits x y p q =
    let left : unsigned_abs (x.num *ℤ own_part y.den x.den) < 2 ^ 124 = step_within x.num y.den x.den (2 ^ 31) (2 ^ 93) p.num q.den in
    let right : unsigned_abs (y.num *ℤ own_part x.den y.den) < 2 ^ 124 = step_within y.num x.den y.den (2 ^ 93) (2 ^ 31) q.num p.den in
    let den : unsigned_abs (x.den *ℤ own_part y.den x.den) < 2 ^ 124 = step_within x.den y.den x.den (2 ^ 31) (2 ^ 93) p.den q.den in
    record {
      parts = record { left = omega (arith, left); right = omega (arith, right); den = omega (arith, den) };
      total = difference_within (x.num *ℤ own_part y.den x.den) (y.num *ℤ own_part x.den y.den) left right;
    }

tiny_within : (x : ℚ) → IsTiny x → IsBetween x (2 ^ 31) (2 ^ 31)
tiny_within x tiny = record { num = tiny.num; den = tiny.den }

quotient_within : (x y : ℚ) → IsTiny x → IsTiny y → IsBetween (divided_ℚ x y) (2 ^ 62) (2 ^ 62)
quotient_within x y a b = times_within x (inv_ℚ y) (2 ^ 31) (2 ^ 31) (2 ^ 31) (2 ^ 31) (tiny_within x a) (inv_within y (2 ^ 31) (2 ^ 31) (tiny_within y b) (omega arith)) (omega arith)

module _ (d : Dictionary) (small : HasSmallCells d) where
  pub ratio_fits : (k t : ℕ) → k < height d → IsCandidate d k t → RatioFits d k t
  ratio_fits k t high candidate = fits_within (ratio_at d k t) (2 ^ 62) (2 ^ 62) (quotient_within (cell d 0 t) (cell d k t) (small 0 t (omega (arith, high)) candidate.high) (small k t high candidate.high)) (omega arith) (omega arith)

  module _ (k j : ℕ) (k_high : k < height d) (j_high : j < width d) where
    row_fits : (t : ℕ) → t < width d → RowFits d k j t
    row_fits t high = (
      (λ is. fits_within (inv_ℚ (cell d k j)) (2 ^ 31) (2 ^ 31) (inv_within (cell d k j) (2 ^ 31) (2 ^ 31) (tiny_within (cell d k j) (small k j k_high j_high)) (omega arith)) (omega arith) (omega arith)),
      (λ apart some. fits_within (divided_ℚ (cell d k t) (neg_ℚ (cell d k j))) (2 ^ 62) (2 ^ 62) (times_within (cell d k t) (inv_ℚ (neg_ℚ (cell d k j))) (2 ^ 31) (2 ^ 31) (2 ^ 31) (2 ^ 31) (tiny_within (cell d k t) (small k t k_high high)) (inv_within (neg_ℚ (cell d k j)) (2 ^ 31) (2 ^ 31) (neg_within (cell d k j) (2 ^ 31) (2 ^ 31) (tiny_within (cell d k j) (small k j k_high j_high)) (omega arith)) (omega arith)) (omega arith)) (omega arith) (omega arith)),
    )

    other_fits : (i t : ℕ) → i < height d → t < width d → OtherFits d k j i t
    other_fits i t i_high t_high =
        let factor = quotient_within (cell d i j) (cell d k j) (small i j i_high j_high) (small k j k_high j_high) in
        let product = times_within (factor_at d k j i) (cell d k t) (2 ^ 62) (2 ^ 62) (2 ^ 31) (2 ^ 31) factor (tiny_within (cell d k t) (small k t k_high t_high)) (omega arith) in
        record {
          factor = λ is. fits_within (factor_at d k j i) (2 ^ 62) (2 ^ 62) factor (omega arith) (omega arith);
          product = λ apart own some. fits_within (factor_at d k j i *ℚ cell d k t) (2 ^ 93) (2 ^ 93) product (omega arith) (omega arith);
          difference = λ apart own some. difference_fits (cell d i t) (factor_at d k j i *ℚ cell d k t) (tiny_within (cell d i t) (small i t i_high t_high)) product;
        }

    pub update_fits : (i t : ℕ) → i < height d → t < width d → UpdateFits d k j i t
    update_fits i t i_high t_high = ((λ is. row_fits t t_high), λ apart. other_fits i t i_high t_high)

  pub never_refused : (row column : ℕ) → IsRefused d row column → ⊥
  never_refused row column r =
      ⊎_elim (λ ratio. ratio.1.refused (ratio_fits r.pivot_row ratio.0 r.leaving.high ratio.1.candidate))
      (λ update. update.refused (update_fits r.pivot_row update.pivot_column r.leaving.high update.entering.candidate.high update.cell_row update.cell_column update.row_high update.column_high)) r.which
