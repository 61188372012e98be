-- The least common denominator of fractions, and numerators over it.
use Rattle.std.specs.Prelude.{◌≡◌, ◌≤◌, ◌^◌, ℕ, ℤ, pos, ◌*ℤ◌, unsigned_abs, int_div, List, All}
use Prim.Native.Nat.{◌∣◌}
use Rattle.rational.specs.Rational.{ℚ}
use Rattle.frac128.specs.Limits.{IsSmall}

-- the denominator in lowest terms
abbrev pub den_of : ℚ → ℕ
den_of x = unsigned_abs x.den

-- the least common multiple of the denominators, 1 for no fractions
pub record IsLeastDenominator (xs : List ℚ) (d : ℕ) : Type 0 where
  pub positive : 1 ≤ d
  pub each : All (λ x. den_of x ∣ d) xs
  pub least : (e : ℕ) → All (λ x. den_of x ∣ e) xs → d ∣ e

-- it is this number, below 2^127
abbrev pub IsCommonDenominator : List ℚ → ℤ → Type 0
IsCommonDenominator xs den = (d : ℕ) × (pos d ≡ den) × IsLeastDenominator xs d × IsSmall den

-- it is 2^127 or more
abbrev pub HasLargeDenominator : List ℚ → Type 0
HasLargeDenominator xs = (d : ℕ) × IsLeastDenominator xs d × (2 ^ 127 ≤ d)

-- the numerator over a multiple of the denominator
abbrev pub numerator_over : ℚ → ℤ → ℤ
numerator_over x den = x.num *ℤ int_div den x.den
