-- A sum divided by a denominator and rounded up.
use Rattle.std.proofs.Common.{◌≤◌, ◌<◌, ◌+◌, ◌*◌, ◌/◌, ◌%◌, ⊎_elim, ℕ, arith}
use Rattle.std.specs.Prelude.{ℤ, pos, negsuc, min, ◌≤ℤ◌, ◌<ℤ◌, unsigned_abs}
use Rattle.std.specs.Int.{div_ceil}
use Rattle.std.proofs.lemmas.Bool.{cases_lt}
use Rattle.std.proofs.lemmas.Grind.{div_ceil_times}
use Rattle.std.proofs.Math.Nat.{mul-le-mul_left}
use Rattle.algebra.proofs.Integers.{mul_zero}
use Rattle.algebra.proofs.Order.{linear}
use Rattle.cert_meaning.specs.Says.{IsRoundedUp}

least_quotient : (d a n k : ℕ) → n * d < a + d → a ≤ d * k → n ≤ k
least_quotient d a n k high most =
    ⊎_elim
    (λ less. absurd (omega (arith, high, most, mul-le-mul_left d (next less))))
    (λ done. done)
    (cases_lt k n)
  where
    next : k < n → k + 1 ≤ n
    next less = omega (arith, less)

pub rounded_is : (den a : ℤ) → pos 1 ≤ℤ den → pos 0 <ℤ a → IsRoundedUp den a (div_ceil (unsigned_abs a) (unsigned_abs den))
rounded_is (negsuc d) a some more = absurd (omega (arith, linear, some))
rounded_is (pos d) (negsuc a) some more = absurd (omega (arith, linear, more))
rounded_is (pos d) (pos a) some more =
    let d_some : 0 < d = omega (arith, linear, some) in
    let both = div_ceil_times a d d_some in
    let n : ℕ = a / d + min 1 (a % d) in
    record {
      above = omega (arith, linear, both.0);
      least = λ k most. least_quotient d a n k both.1 (omega (arith, linear, most));
    }

pub rounded_none : (den a : ℤ) → a ≤ℤ pos 0 → IsRoundedUp den a 0
rounded_none den a none = record { above = omega (arith, linear, mul_zero den, none); least = λ k most. omega arith }
