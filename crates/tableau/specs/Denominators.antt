-- Fractions times their least common denominator.
use Rattle.std.specs.Prelude.{◌≡◌, ◌⊎◌, ℕ, ◌≤◌, ◌<◌, ◌^◌, ℤ, pos, unsigned_abs, List, length, slice_index_or}
use Rattle.rational.specs.Rational.{ℚ}
use Rattle.frac128.specs.Limits.{IsSmall}
use Rattle.frac128.specs.Denominators.{numerator_over}
use Rattle.tableau.specs.Leaves.{AreOfLeaf}
use Rattle.tableau.specs.Outcomes.{number_at}

-- a whole number of a list by its place
abbrev pub whole_at : List ℤ → ℕ → ℤ
whole_at zs k = slice_index_or zs k (pos 0)

-- the least common denominator of fractions and their numerators over it, all below 2^127 in absolute value
pub record AreWholeMultipliers (xs : List ℚ) (den : ℤ) (numerators : List ℤ) : Type 0 where
  pub size : length numerators ≡ length xs
  pub leaf : (d : ℕ) × (pos d ≡ den) × AreOfLeaf (length xs) (number_at xs) d (whole_at numerators)
  pub den_small : IsSmall den
  pub numerators_small : (k : ℕ) → k < length xs → IsSmall (whole_at numerators k)

-- the least common denominator of fractions, or a numerator over it, is 2^127 or more in absolute value
pub record PassWhole (xs : List ℚ) : Type 0 where
  pub den : ℕ
  pub numerators : ℕ → ℤ
  pub leaf : AreOfLeaf (length xs) (number_at xs) den numerators
  pub cause : (2 ^ 127 ≤ den) ⊎ ((k : ℕ) × (k < length xs) × (2 ^ 127 ≤ unsigned_abs (numerators k)))

-- fractions have one least common denominator, and one numerator each over it
abbrev pub AllLeavesAreOne : Type 0
AllLeavesAreOne = (n : ℕ) (y : ℕ → ℚ) (d e : ℕ) (z w : ℕ → ℤ) → AreOfLeaf n y d z → AreOfLeaf n y e w → (d ≡ e) × ((k : ℕ) → k < n → z k ≡ w k)

-- ---- as the code finds them
-- a list of the first fractions times it
pub record AreNumerators (n : ℕ) (y : ℕ → ℚ) (den : ℤ) (list : List ℤ) : Type 0 where
  pub size : length list ≡ n
  pub each : (k : ℕ) → k < n → whole_at list k ≡ numerator_over (y k) den
  pub small : (k : ℕ) → k < n → IsSmall (whole_at list k)

-- one of them isn't small
abbrev pub HasLarge : ℕ → (ℕ → ℚ) → ℤ → Type 0
HasLarge n y den = (k : ℕ) × (k < n) × (IsSmall (numerator_over (y k) den) → ⊥)
