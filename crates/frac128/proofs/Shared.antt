-- The factors that two denominators share.
use Rattle.std.proofs.Common.{◌≡◌, ◌<◌, ◌/◌, ℕ, ℤ, pos, negsuc, ◌*ℤ◌, ◌<ℤ◌, ◌∙◌, unsigned_abs, sym, ap, subst, refl, arith}
use Rattle.std.specs.Prelude.{int_div}
use Rattle.std.specs.Int.{IsGcd}
use Rattle.std.proofs.lemmas.Int.{ints}
use Rattle.std.proofs.lemmas.Nat.Gcd.{IsGcd-swap, same_from_IsGcd}
use Prim.Native.Nat.{◌∣◌}
use native.Mathlib.Nat.{dvd_refl, pos_of_dvd_of_pos}
use Rattle.algebra.proofs.Integers as Z
use Rattle.algebra.proofs.Order.{cancel_eq}
use Rattle.algebra.proofs.Divisors.{IsGcd-divided, euclid}
use Rattle.algebra.proofs.Lowest.{above, abs_div, abs_pos, div_exact}
use Rattle.frac128.specs.Limits.{gcd_of, own_part}

pub gcd_is : (a b g : ℕ) → IsGcd a b g → gcd_of a b ≡ g
gcd_is a b g h = same_from_IsGcd a b (gcd_of a b) g (euclid a b).1 h

-- a denominator divided by the greatest common divisor
pub own_is : (b d g : ℤ) → pos 0 <ℤ g → IsGcd (unsigned_abs b) (unsigned_abs d) (unsigned_abs g) → own_part b d ≡ int_div b g
own_is b d g p h = ap (λ (k : ℕ). int_div b (pos k)) (gcd_is (unsigned_abs b) (unsigned_abs d) (unsigned_abs g) h) ∙ ap (int_div b) (abs_pos g p)

pub exact : (n g : ℤ) → pos 0 <ℤ g → unsigned_abs g ∣ unsigned_abs n → int_div n g *ℤ g ≡ n
exact n (pos g) p h = div_exact n g h
exact n (negsuc g) p h = absurd (omega (arith, ints))

-- the part times the divisor is the denominator
pub own-times : (b d g : ℤ) → pos 0 <ℤ g → IsGcd (unsigned_abs b) (unsigned_abs d) (unsigned_abs g) → own_part b d *ℤ g ≡ b
own-times b d g p h = ap (λ q. q *ℤ g) (own_is b d g p h) ∙ exact b g p h.0

pub own_above : (b d g : ℤ) → pos 0 <ℤ b → pos 0 <ℤ g → IsGcd (unsigned_abs b) (unsigned_abs d) (unsigned_abs g) → pos 0 <ℤ own_part b d
own_above b d g pb p h = above (own_part b d) g b pb p (own-times b d g p h)

pub same_gcd : (b : ℤ) → IsGcd (unsigned_abs b) (unsigned_abs b) (unsigned_abs b)
same_gcd b = (dvd_refl (unsigned_abs b), dvd_refl (unsigned_abs b), λ d p q. p)

-- equal denominators share all
pub own_same : (b d : ℤ) → pos 0 <ℤ b → b ≡ d → own_part b d ≡ pos 1
own_same b d p e =
    subst (λ x. own_part b x ≡ pos 1) e
    (let t = own-times b b b p (same_gcd b) in
    cancel_eq b (own_part b b) (pos 1) p (Z.mul_comm b (own_part b b) ∙ t ∙ sym (Z.mul_one b)))

-- ---- the quotients that the code takes
pub factor_of : (b d g q : ℤ) → pos 0 <ℤ g → IsGcd (unsigned_abs b) (unsigned_abs d) (unsigned_abs g) → q ≡ int_div d g → q ≡ own_part d b
factor_of b d g q p h e = e ∙ sym (own_is d b g p (IsGcd-swap (unsigned_abs b) (unsigned_abs d) (unsigned_abs g) h))

pub part_of : (b d g q : ℤ) → pos 0 <ℤ g → IsGcd (unsigned_abs b) (unsigned_abs d) (unsigned_abs g) → q ≡ int_div b g → q ≡ own_part b d
part_of b d g q p h e = e ∙ sym (own_is b d g p h)

-- two denominators by their own parts and what they share
pub record Pair (b d : ℤ) : Type 0 where
  pub shared : ℤ
  pub positive : pos 0 <ℤ shared
  pub is : shared ≡ pos (gcd_of (unsigned_abs b) (unsigned_abs d))
  pub factor : pos 0 <ℤ own_part d b
  pub left : own_part b d *ℤ shared ≡ b
  pub right : own_part d b *ℤ shared ≡ d
  pub apart : IsGcd (unsigned_abs (own_part b d)) (unsigned_abs (own_part d b)) 1

own_parts_apart : (b d : ℤ) (g : ℕ) → 0 < g → IsGcd (unsigned_abs b) (unsigned_abs d) g → IsGcd (unsigned_abs (own_part b d)) (unsigned_abs (own_part d b)) 1
own_parts_apart b d g p h =
    let one : unsigned_abs (own_part b d) ≡ unsigned_abs b / g = abs_div b (gcd_of (unsigned_abs b) (unsigned_abs d)) ∙ ap (λ k. unsigned_abs b / k) (gcd_is (unsigned_abs b) (unsigned_abs d) g h) in
    let two : unsigned_abs (own_part d b) ≡ unsigned_abs d / g = abs_div d (gcd_of (unsigned_abs d) (unsigned_abs b)) ∙ ap (λ k. unsigned_abs d / k) (gcd_is (unsigned_abs d) (unsigned_abs b) g (IsGcd-swap (unsigned_abs b) (unsigned_abs d) g h)) in
    rw (one, two) (IsGcd-divided (unsigned_abs b) (unsigned_abs d) g p h)

pub own_pair : (b d : ℤ) → pos 0 <ℤ b → pos 0 <ℤ d → Pair b d
own_pair b d pb pd =
    let g = euclid (unsigned_abs b) (unsigned_abs d) in
    let some : 0 < unsigned_abs d = omega (arith, ints) in
    let above_zero : 0 < g.0 = pos_of_dvd_of_pos g.1.1 some in
    let positive : pos 0 <ℤ pos g.0 = omega (arith, ints) in
    let swapped = IsGcd-swap (unsigned_abs b) (unsigned_abs d) g.0 g.1 in
    record {
      shared = pos g.0;
      positive = positive;
      is = refl;
      factor = own_above d b (pos g.0) pd positive swapped;
      left = own-times b d (pos g.0) positive g.1;
      right = own-times d b (pos g.0) positive swapped;
      apart = own_parts_apart b d g.0 above_zero g.1;
    }
