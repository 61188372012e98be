-- What the numerator and the denominator of a sum share.
use Rattle.std.proofs.Common.{◌≡◌, ◌*◌, ℕ, ℤ, pos, ◌+ℤ◌, ◌-ℤ◌, ◌*ℤ◌, ◌<ℤ◌, neg_ℤ, ◌∙◌, unsigned_abs, sym, ap, subst, refl, arith}
use Rattle.std.specs.Prelude.{int_div}
use Rattle.std.specs.Int.{IsGcd}
use Rattle.std.proofs.lemmas.Int.{ints, unsigned_abs-mul}
use Rattle.std.proofs.lemmas.Nat.Gcd.{IsGcd-swap, dvd_trans}
use Prim.Native.Nat.{◌∣◌}
use native.Mathlib.Nat.{dvd-mul_left, dvd-mul_right, one-dvd}
use Rattle.algebra.specs.Fractions.{IsLowest}
use Rattle.algebra.proofs.Divisors.{dvd_of_coprime}
use Rattle.algebra.proofs.Integers as Z
use Rattle.algebra.proofs.Lowest.{div_exact}
use Rattle.algebra.proofs.Rings.{int_ring, ring3, ◌⊖◌, ◌⊗◌, ◌⊜◌}
use Rattle.frac128.specs.Parts.{Shares}

-- the divisor of the smaller number is that of the denominator
pub gcd_of_shared : (n d s g : ℕ) → s ∣ d → ((k : ℕ) → k ∣ n → k ∣ d → k ∣ s) → IsGcd n s g → IsGcd n d g
gcd_of_shared n d s g divides all h = (h.0, dvd_trans g h.1 divides, λ k p q. h.2 k p (all k p q))

-- ---- divisors of integers
divides_product : (k : ℕ) (q z : ℤ) → q *ℤ pos k ≡ z → k ∣ unsigned_abs z
divides_product k q z e = subst (λ x. k ∣ x) (sym (unsigned_abs-mul q (pos k)) ∙ ap unsigned_abs e) (dvd-mul_left k (unsigned_abs q))

-- what divides a sum and one side divides the other
divides_rest : (k : ℕ) (x y : ℤ) → k ∣ unsigned_abs (x +ℤ y) → k ∣ unsigned_abs y → k ∣ unsigned_abs x
divides_rest k x y both one =
    let q = int_div (x +ℤ y) (pos k) in
    let r = int_div y (pos k) in
    let e : q *ℤ pos k ≡ x +ℤ y = div_exact (x +ℤ y) k both in
    let f : r *ℤ pos k ≡ y = div_exact y k one in
    let t : (q -ℤ r) *ℤ pos k ≡ q *ℤ pos k -ℤ r *ℤ pos k = ring3 int_ring (λ q r k. (q ⊖ r) ⊗ k ⊜ q ⊗ k ⊖ r ⊗ k) refl q r (pos k) in
    divides_product k (q -ℤ r) x (omega (arith, ints, t, e, f))

divides_left : (k : ℕ) (x y : ℤ) → k ∣ unsigned_abs y → k ∣ unsigned_abs (x *ℤ y)
divides_left k x y h = subst (λ z. k ∣ z) (sym (unsigned_abs-mul x y)) (dvd_trans k h (dvd-mul_left (unsigned_abs y) (unsigned_abs x)))

-- a divisor of a number that shares no factor with another shares none either
coprime_below : (k m n : ℕ) → k ∣ m → IsGcd m n 1 → IsGcd k n 1
coprime_below k m n h c = (one-dvd k, one-dvd n, λ e p q. c.2 e (dvd_trans e p h) q)

-- a numerator over b, and what is added is a multiple of p, which divides b
coprime_part : (a q y : ℤ) (b p : ℕ) → IsGcd (unsigned_abs a) b 1 → p ∣ b → IsGcd p (unsigned_abs q) 1 → ((k : ℕ) → k ∣ p → k ∣ unsigned_abs y) → IsGcd (unsigned_abs (a *ℤ q +ℤ y)) p 1
coprime_part a q y b p low pb apart multiple = (
  one-dvd (unsigned_abs (a *ℤ q +ℤ y)),
  one-dvd p,
  λ k both one.
      let rest : k ∣ unsigned_abs (a *ℤ q) = divides_rest k (a *ℤ q) y both (multiple k one) in
      let product : k ∣ unsigned_abs q * unsigned_abs a = subst (λ z. k ∣ z) (unsigned_abs-mul a q ∙ omega arith) rest in
      low.2 k (dvd_of_coprime k (unsigned_abs q) (unsigned_abs a) (coprime_below k p (unsigned_abs q) one apart) product) (dvd_trans k one pb),
)

-- what a number shares with a product of three it shares with the middle one
middle : (k p g q : ℕ) → IsGcd k p 1 → IsGcd k q 1 → k ∣ p * g * q → k ∣ g
middle k p g q hp hq h =
    let one : k ∣ p * (g * q) = subst (λ z. k ∣ z) (omega arith) h in
    let two : k ∣ q * g = subst (λ z. k ∣ z) (omega arith) (dvd_of_coprime k p (g * q) hp one) in
    dvd_of_coprime k q g hq two

-- b is p times g
by_parts : (b p g : ℤ) → p *ℤ g ≡ b → unsigned_abs b ≡ unsigned_abs p * unsigned_abs g
by_parts b p g e = sym (ap unsigned_abs e) ∙ unsigned_abs-mul p g

pub sum_shares : (a b c d g p q : ℤ) → IsLowest a b → IsLowest c d → pos 0 <ℤ g → p *ℤ g ≡ b → q *ℤ g ≡ d → IsGcd (unsigned_abs p) (unsigned_abs q) 1 → Shares (a *ℤ q +ℤ c *ℤ p) (b *ℤ q) g
sum_shares a b c d g p q low_a low_c above eb ed apart =
    let b_is = by_parts b p g eb in
    let d_is = by_parts d q g ed in
    let den_is : unsigned_abs (b *ℤ q) ≡ unsigned_abs p * unsigned_abs g * unsigned_abs q = unsigned_abs-mul b q ∙ ap (λ k. k * unsigned_abs q) b_is in
    let p_b : unsigned_abs p ∣ unsigned_abs b = subst (λ k. unsigned_abs p ∣ k) (sym b_is) (dvd-mul_right (unsigned_abs p) (unsigned_abs g)) in
    let q_d : unsigned_abs q ∣ unsigned_abs d = subst (λ k. unsigned_abs q ∣ k) (sym d_is) (dvd-mul_right (unsigned_abs q) (unsigned_abs g)) in
    let total = a *ℤ q +ℤ c *ℤ p in
    let with_p : IsGcd (unsigned_abs total) (unsigned_abs p) 1 = coprime_part a q (c *ℤ p) (unsigned_abs b) (unsigned_abs p) low_a.1 p_b apart (λ k h. divides_left k c p h) in
    let turned : IsGcd (unsigned_abs (c *ℤ p +ℤ a *ℤ q)) (unsigned_abs q) 1 = coprime_part c p (a *ℤ q) (unsigned_abs d) (unsigned_abs q) low_c.1 q_d (IsGcd-swap (unsigned_abs p) (unsigned_abs q) 1 apart) (λ k h. divides_left k a q h) in
    let with_q : IsGcd (unsigned_abs total) (unsigned_abs q) 1 = subst (λ z. IsGcd (unsigned_abs z) (unsigned_abs q) 1) (Z.add_comm (c *ℤ p) (a *ℤ q)) turned in
    record {
      positive = above;
      divides = subst (λ k. unsigned_abs g ∣ k) (sym den_is) (dvd_trans (unsigned_abs g) (dvd-mul_left (unsigned_abs g) (unsigned_abs p)) (dvd-mul_right (unsigned_abs p * unsigned_abs g) (unsigned_abs q)));
      all = λ k num den. middle k (unsigned_abs p) (unsigned_abs g) (unsigned_abs q) (coprime_below k (unsigned_abs total) (unsigned_abs p) num with_p) (coprime_below k (unsigned_abs total) (unsigned_abs q) num with_q) (subst (λ z. k ∣ z) den_is den);
    }

pub difference_shares : (a b c d g p q : ℤ) → IsLowest a b → IsLowest c d → pos 0 <ℤ g → p *ℤ g ≡ b → q *ℤ g ≡ d → IsGcd (unsigned_abs p) (unsigned_abs q) 1 → Shares (a *ℤ q -ℤ c *ℤ p) (b *ℤ q) g
difference_shares a b c d g p q low_a low_c above eb ed apart =
    let same : unsigned_abs (neg_ℤ c) ≡ unsigned_abs c = omega (arith, ints) in
    subst (λ z. Shares (a *ℤ q +ℤ z) (b *ℤ q) g) (Z.neg_mul c p) (sum_shares a b (neg_ℤ c) d g p q low_a (low_c.0, rw same low_c.1) above eb ed apart)
