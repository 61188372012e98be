-- Two fractions over their common denominator.
use Rattle.std.specs.Prelude.{◌≡◌, ℕ, ℤ, pos, ◌*ℤ◌, ◌<ℤ◌, unsigned_abs}
use Prim.Native.Nat.{◌∣◌}
use Rattle.frac128.specs.Limits.{gcd_of, own_part}
use Rattle.frac128.specs.declared.steps.Alignment.{Alignment}

pub record Aligns (a b c d : ℤ) (parts : Alignment) : Type 0 where
  pub left : parts.left ≡ a *ℤ own_part d b
  pub right : parts.right ≡ c *ℤ own_part b d
  pub den : parts.den ≡ b *ℤ own_part d b
  pub shared : parts.shared ≡ pos (gcd_of (unsigned_abs b) (unsigned_abs d))

-- a divisor of the denominator that has all that the denominator shares with the numerator
pub record Shares (num den shared : ℤ) : Type 0 where
  pub positive : pos 0 <ℤ shared
  pub divides : unsigned_abs shared ∣ unsigned_abs den
  pub all : (k : ℕ) → k ∣ unsigned_abs num → k ∣ unsigned_abs den → k ∣ unsigned_abs shared
