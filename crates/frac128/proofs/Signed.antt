-- Fractions by their sign and the absolute values of their parts.
use Rattle.std.proofs.Common.{◌≡◌, ◌<◌, ◌/◌, ◌^◌, ℕ, zero, suc, Bool, true, false, pos, ◌<ℤ◌, unsigned_abs, refl, arith}
use Rattle.std.specs.Prelude.{int_div}
use Rattle.std.specs.Int.{IsGcd}
use Rattle.std.proofs.lemmas.Int.{ints}
use Rattle.algebra.specs.Fractions.{IsLowest}
use Rattle.algebra.proofs.Lowest.{divided}
use Rattle.rational.specs.Rational.{make}
use Rattle.rational.proofs.Rationals.{make-same}
use Rattle.frac128.specs.Limits.{signed}

abs_signed : (negative : Bool) (n : ℕ) → unsigned_abs (signed negative n) ≡ n
abs_signed true zero = refl
abs_signed true (suc n) = refl
abs_signed false n = refl

signed_div : (negative : Bool) (n g : ℕ) → int_div (signed negative n) (pos g) ≡ signed negative (n / g)
signed_div true zero g = let e : 0 / g ≡ 0 = omega arith in rw e refl
signed_div true (suc n) g = refl
signed_div false n g = refl

-- dividing by the greatest common divisor
pub parts_divided : (negative : Bool) (n d g : ℕ) → 0 < d → 0 < g → IsGcd n d g → IsLowest (signed negative (n / g)) (pos (d / g)) × (make (signed negative (n / g)) (pos (d / g)) ≡ make (signed negative n) (pos d))
parts_divided negative n d g pd pg h =
    let above_d : pos 0 <ℤ pos d = omega (arith, ints) in
    let above_g : pos 0 <ℤ pos g = omega (arith, ints) in
    let r = divided (signed negative n) (pos d) (pos g) above_d above_g (rw (abs_signed negative n) h) in
    let s = rw (signed_div negative n g) at r in
    (s.0, make-same (signed negative (n / g)) (pos (d / g)) (signed negative n) (pos d) s.0.0 above_d s.1)

pub small_signed : (negative : Bool) (n : ℕ) → n < 2 ^ 127 → unsigned_abs (signed negative n) < 2 ^ 127
small_signed negative n h = omega (arith, abs_signed negative n)

pub signed_small : (negative : Bool) (n : ℕ) → unsigned_abs (signed negative n) < 2 ^ 127 → n < 2 ^ 127
signed_small negative n h = omega (arith, abs_signed negative n)
