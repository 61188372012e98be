-- Which numbers fit, and when each operation on fractions gives one.
use Rattle.std.specs.Prelude.{Bool, true, false, ℕ, suc, ◌<◌, ◌^◌, ℤ, pos, negsuc, ◌*ℤ◌, neg_ℤ, unsigned_abs, int_div}
use Rattle.algebra.proofs.Divisors.{euclid}
use Rattle.rational.specs.Rational.{ℚ, make, ◌*ℚ◌, inv_ℚ}

-- at most 2^127 - 1 in absolute value
abbrev pub IsSmall : ℤ → Type 0
IsSmall z = unsigned_abs z < 2 ^ 127

-- numerator and denominator in lowest terms are small
pub record Fits (x : ℚ) : Type 0 where
  pub num : IsSmall x.num
  pub den : IsSmall x.den

-- a number with this sign
abbrev pub signed : Bool → ℕ → ℤ
signed true n = neg_ℤ (pos n)
signed false n = pos n

-- n/d, for d of any sign but 0
abbrev pub quotient_ℚ : ℤ → ℤ → ℚ
quotient_ℚ n (pos d) = make n (pos d)
quotient_ℚ n (negsuc d) = make (neg_ℤ n) (pos (suc d))

-- the greatest common divisor
abbrev pub gcd_of : ℕ → ℕ → ℕ
gcd_of a b = (euclid a b).0

-- a denominator without the factors that it shares with another
abbrev pub own_part : ℤ → ℤ → ℤ
own_part b d = int_div b (pos (gcd_of (unsigned_abs b) (unsigned_abs d)))

-- a/b and c/d over their common denominator fit
pub record AlignFits (a b c d : ℤ) : Type 0 where
  pub left : IsSmall (a *ℤ own_part d b)
  pub right : IsSmall (c *ℤ own_part b d)
  pub den : IsSmall (b *ℤ own_part d b)

-- the steps of a sum or a difference fit, the factors that the denominators share taken out
pub record SumFits (step : ℤ → ℤ → ℤ) (x y : ℚ) : Type 0 where
  pub parts : AlignFits x.num x.den y.num y.den
  pub total : IsSmall (step (x.num *ℤ own_part y.den x.den) (y.num *ℤ own_part x.den y.den))

abbrev pub divided_ℚ : ℚ → ℚ → ℚ
divided_ℚ x y = x *ℚ inv_ℚ y
