-- Numbers that stay small.
use Rattle.std.proofs.Common.{◌≡◌, ℤ, pos, negsuc, ◌<ℤ◌, unsigned_abs, arith}
use Rattle.std.specs.Prelude.{int_div}
use Rattle.std.proofs.lemmas.Int.{ints}
use native.Mathlib.Nat.{div-le_self}
use Rattle.algebra.proofs.Lowest.{abs_div}
use Rattle.frac128.specs.Limits.{IsSmall}

-- a quotient by a number above 0
pub small_quotient : (n g q : ℤ) → pos 0 <ℤ g → q ≡ int_div n g → IsSmall n → IsSmall q
small_quotient n (pos g) q p e h = let l = div-le_self (unsigned_abs n) g in rw (e, abs_div n g) (omega arith)
small_quotient n (negsuc g) q p e h = absurd (omega (arith, ints))
