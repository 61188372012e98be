-- Lowest terms of integers: a fraction divided by the greatest common divisor, and uniqueness.
use Rattle.std.proofs.Common.{◌≡◌, ℕ, ◌*◌, ◌/◌, ◌<◌, zero, suc, arith, ap, ◌∙◌, sym, refl}
use Prim.Native.Nat.{◌∣◌}
use native.Mathlib.Nat.{div-mul-le_self, lt-div-mul-add, div-mul_cancel, dvd-zero, dvd_refl, pos_of_dvd_of_pos}
use Rattle.std.proofs.lemmas.Int.{ints, unsigned_abs-mul}
use lib.IntN.{◌+ℤ◌, ℤ, pos, negsuc, ◌*ℤ◌, neg_ℤ}
use lib.Signed.{◌≤ℤ◌, ◌<ℤ◌, lt_z_yes}
use Rattle.std.specs.Int.RustNames.{int_div, unsigned_abs}
use Rattle.std.specs.Int.{int_div_euclid, IsGcd}
use Rattle.algebra.specs.Fractions.{IsLowest, SameFraction}
use Rattle.algebra.proofs.Integers.{neg_mul, mul_comm, mul_zero}
use Rattle.algebra.proofs.Order.{cancel_eq, cancel_lt, linear}
use Rattle.algebra.proofs.Divisors.{IsGcd-divided, lowest_same}
use Rattle.algebra.proofs.Rings.{int_ring, ◌⊗◌, ◌⊜◌, ring3}

abs_neg : (n : ℕ) → unsigned_abs (neg_ℤ (pos n)) ≡ n
abs_neg zero = refl
abs_neg (suc n) = refl

pub abs_div : (n : ℤ) (g : ℕ) → unsigned_abs (int_div n (pos g)) ≡ unsigned_abs n / g
abs_div (pos a) g = refl
abs_div (negsuc a) g = abs_neg (suc a / g)

pub div_exact : (n : ℤ) (g : ℕ) → g ∣ unsigned_abs n → int_div n (pos g) *ℤ pos g ≡ n
div_exact (pos a) g h = ap pos (div-mul_cancel g h)
div_exact (negsuc a) g h = neg_mul (pos (suc a / g)) (pos g) ∙ ap (λ (x : ℕ). neg_ℤ (pos x)) (div-mul_cancel g h)

pub above : (q g d : ℤ) → pos 0 <ℤ d → pos 0 <ℤ g → q *ℤ g ≡ d → pos 0 <ℤ q
above q g d p s e =
    let c = mul_comm g q in
    let z = mul_zero g in
    cancel_lt g (pos 0) q s (omega (arith, linear))

same : (n d g q r : ℤ) → q *ℤ g ≡ n → r *ℤ g ≡ d → SameFraction q r n d
same n d g q r e f = rw (← e, ← f) (ring3 int_ring (λ q r g. q ⊗ (r ⊗ g) ⊜ (q ⊗ g) ⊗ r) refl q r g)

pub divided : (n d g : ℤ) → pos 0 <ℤ d → pos 0 <ℤ g → IsGcd (unsigned_abs n) (unsigned_abs d) (unsigned_abs g)
    → IsLowest (int_div n g) (int_div d g) × SameFraction (int_div n g) (int_div d g) n d
divided n d (negsuc g) p s h = absurd (omega (arith, ints))
divided n d (pos g) p s h =
    let en = div_exact n g h.0 in
    let ed = div_exact d g h.1 in
    let k : IsGcd (unsigned_abs (int_div n (pos g))) (unsigned_abs (int_div d (pos g))) 1 =
    rw (abs_div n g, abs_div d g) (IsGcd-divided (unsigned_abs n) (unsigned_abs d) g (omega (arith, ints)) h) in
    ((above (int_div d (pos g)) (pos g) d p s ed, k), same n d (pos g) (int_div n (pos g)) (int_div d (pos g)) en ed)

pub abs_pos : (d : ℤ) → pos 0 <ℤ d → pos (unsigned_abs d) ≡ d
abs_pos d p = omega (arith, ints)

-- lowest terms are unique
pub IsLowest-unique : (n d m e : ℤ) → IsLowest n d → IsLowest m e → SameFraction n d m e → (n ≡ m) × (d ≡ e)
IsLowest-unique n d m e h k s =
    let abs : unsigned_abs n * unsigned_abs e ≡ unsigned_abs m * unsigned_abs d = sym (unsigned_abs-mul n e) ∙ ap unsigned_abs s ∙ unsigned_abs-mul m d in
    let r = lowest_same (unsigned_abs n) (unsigned_abs d) (unsigned_abs m) (unsigned_abs e) (let p = h.0 in omega (arith, ints)) h.1 k.1 abs in
    let de : d ≡ e = sym (abs_pos d h.0) ∙ ap pos r.1 ∙ abs_pos e k.0 in
    (cancel_eq d n m h.0 (mul_comm d n ∙ ap (λ x. n *ℤ x) de ∙ s ∙ mul_comm m d), de)

-- as the code says it
pub divided_is : (n d g q r : ℤ) → pos 0 <ℤ d → pos 0 <ℤ g → IsGcd (unsigned_abs n) (unsigned_abs d) (unsigned_abs g) → q ≡ int_div n g → r ≡ int_div d g → IsLowest q r × SameFraction q r n d
divided_is n d g q r p s h e f = rw (e, f) (divided n d g p s h)

pub zero_lowest : IsLowest (pos 0) (pos 1)
zero_lowest = (lt_z_yes tt, (dvd-zero 1, dvd_refl 1, λ d p q. q))

-- for a denominator `suc k`, and a greatest common divisor that `euclid` found
pub above_zero : (k : ℕ) → pos 0 <ℤ pos (suc k)
above_zero k = omega (arith, ints)

pub gcd_above : (n : ℕ) (k g : ℕ) → IsGcd n (suc k) g → pos 0 <ℤ pos g
gcd_above n k g h = let p = pos_of_dvd_of_pos h.1 (let q : 0 < suc k = omega arith in q) in omega (arith, ints)

-- a quotient rounded down
pub floor_is : (n d : ℤ) → pos 0 <ℤ d → ((int_div_euclid n d *ℤ d) ≤ℤ n) × (n <ℤ ((int_div_euclid n d +ℤ pos 1) *ℤ d))
floor_is (pos a) (pos b) p = let h = div-mul-le_self a b in let k = lt-div-mul-add {a = a} {b = b} (let z : 0 < b = omega (arith, ints) in z) in (omega (arith, ints), omega (arith, ints))
floor_is (negsuc a) (pos b) p = let h = div-mul-le_self a b in let k = lt-div-mul-add {a = a} {b = b} (let z : 0 < b = omega (arith, ints) in z) in (omega (arith, ints), grind (arith, ints))
floor_is n (negsuc b) p = absurd (omega (arith, ints))
