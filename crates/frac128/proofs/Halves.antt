-- Factors of 2, and the divisor of an odd number and another.
use Rattle.std.proofs.Common.{◌≡◌, ◌+◌, ◌-◌, ◌*◌, ◌/◌, ◌%◌, ◌<◌, ◌≤◌, ◌^◌, ℕ, zero, suc, ◌∙◌, sym, ap, subst, arith, ⊎_elim}
use Rattle.std.specs.Prelude.{min}
use Rattle.std.specs.Int.{IsGcd, abs_diff, bit_at, trailing_zeros, Width}
use mir.Val.{bits}
use Rattle.std.proofs.lemmas.Bool.{cases_lt}
use Rattle.std.proofs.lemmas.Nat.{shr-shr, shr_le}
use Rattle.std.proofs.lemmas.Nat.Bits.{bit_at-suc, bit_at_lowest, bit_at-trailing_zeros}
use Rattle.std.proofs.lemmas.Nat.Gcd.{IsGcd-swap, IsGcd-from_sub, le_of_dvd}
use Prim.Native.Nat.{◌∣◌}
use native.Mathlib.Nat.{dvd_trans, dvd-mul_left, dvd-mul_right, dvd-sub, one-dvd, pow-suc}
use Rattle.algebra.proofs.Divisors.{IsGcd-times, dvd_of_coprime}

-- an odd number shares no factor with 2
pub odd_apart : (d : ℕ) → d % 2 ≡ 1 → IsGcd d 2 1
odd_apart d odd = (
  one-dvd d,
  one-dvd 2,
  λ e p q. subst (λ z. e ∣ z) (omega (arith, odd)) (dvd-sub e p (dvd_trans e q (dvd-mul_right 2 (d / 2)))),
)

-- nor does a divisor of it
divisor_apart : (d x : ℕ) → d ∣ x → x % 2 ≡ 1 → IsGcd d 2 1
divisor_apart d x h odd = let one = odd_apart x odd in (one-dvd d, one-dvd 2, λ e p q. one.2 e (dvd_trans e p h) q)

half_in : (x n g : ℕ) → x % 2 ≡ 1 → n % 2 ≡ 0 → IsGcd x (n / 2) g → IsGcd x n g
half_in x n g odd even h =
    let is : n ≡ 2 * (n / 2) = omega (arith, even) in (
      h.0,
      subst (λ z. g ∣ z) (sym is) (dvd_trans g h.1 (dvd-mul_left (n / 2) 2)),
      λ d p q. h.2 d p (dvd_of_coprime d 2 (n / 2) (divisor_apart d x p odd) (subst (λ z. d ∣ z) is q)),
    )

-- the digits below a place are 0
abbrev pub IsEvenTo : ℕ → ℕ → Type 0
IsEvenTo n t = (i : ℕ) → i < t → bit_at n i ≡ 0

even_half : (n t : ℕ) → IsEvenTo n (suc t) → IsEvenTo (n / 2) t
even_half n t h i l = sym (bit_at-suc n i) ∙ h (suc i) (omega arith)

even_first : (n t : ℕ) → IsEvenTo n (suc t) → n % 2 ≡ 0
even_first n t h = sym (bit_at_lowest n) ∙ h 0 (omega arith)

later : (n t : ℕ) → n / 2 ^ suc t ≡ n / 2 / 2 ^ t
later n t = (let e : suc t ≡ 1 + t = omega arith in ap (λ k. n / 2 ^ k) e) ∙ sym (shr-shr n 1 t)

-- an odd number and another share what it shares with the other without its factors 2
pub twos_out : (t x n g : ℕ) → x % 2 ≡ 1 → IsEvenTo n t → IsGcd x (n / 2 ^ t) g → IsGcd x n g
twos_out zero x n g odd even h = subst (λ z. IsGcd x z g) (omega arith) h
twos_out (suc t) x n g odd even h = half_in x n g odd (even_first n t even) (twos_out t x (n / 2) g odd (even_half n t even) (subst (λ z. IsGcd x z g) (later n t) h))

-- a number is its part without so many factors 2, times these
pub twos_back : (t n : ℕ) → IsEvenTo n t → n / 2 ^ t * 2 ^ t ≡ n
twos_back zero n even = omega arith
twos_back (suc t) n even =
    let half = twos_back t (n / 2) (even_half n t even) in
    let first = even_first n t even in
    rw (later n t, pow-suc 2 t) (omega (arith, half, first))

pub odd_part : (w : Width) (n : ℕ) → 0 < n → n < 2 ^ bits w → n / 2 ^ trailing_zeros w n % 2 ≡ 1
odd_part w n some fits = (bit_at-trailing_zeros w n some fits).1

pub even_to : (w : Width) (n t : ℕ) → 0 < n → n < 2 ^ bits w → t ≤ trailing_zeros w n → IsEvenTo n t
even_to w n t some fits low i l = (bit_at-trailing_zeros w n some fits).2 i (omega arith)

-- the difference of two numbers and the smaller of them share what both share
pub differ : (x r g : ℕ) → IsGcd (min x r) (abs_diff x r) g → IsGcd x r g
differ x r g h = ⊎_elim
    (λ less. IsGcd-swap r x g (IsGcd-from_sub r x g (omega arith) (IsGcd-swap x (r - x) g (subst (λ z. IsGcd x z g) (omega arith) (subst (λ z. IsGcd z (abs_diff x r) g) (omega arith) h)))))
    (λ more. IsGcd-from_sub x r g more (IsGcd-swap r (x - r) g (subst (λ z. IsGcd r z g) (omega arith) (subst (λ z. IsGcd z (abs_diff x r) g) (omega arith) h))))
    (cases_lt x r)

-- one step of the loop: x is odd, and y is not 0
pub record HasStepped (w : Width) (x y x2 y2 : ℕ) : Type 0 where
  pub odd : x2 % 2 ≡ 1
  pub less : x2 + y2 < x + y
  pub back : (g : ℕ) → IsGcd x2 y2 g → IsGcd x y g

pub stepped : (w : Width) (x y : ℕ) → x % 2 ≡ 1 → 0 < y → y < 2 ^ bits w → HasStepped w x y (min x (y / 2 ^ trailing_zeros w y)) (abs_diff x (y / 2 ^ trailing_zeros w y))
stepped w x y odd some fits =
    let t = trailing_zeros w y in
    let r = y / 2 ^ t in
    let low : r ≤ y = shr_le y t in
    let rest : r % 2 ≡ 1 = odd_part w y some fits in
    record {
      odd = omega (arith, odd, rest);
      less = omega (arith, odd, low);
      back = λ g h. twos_out t x y g odd (even_to w y t some fits (omega arith)) (differ x r g h);
    }

-- both numbers without the factors 2 that they share, and these back
pub record IsHalved (a b g t most : ℕ) : Type 0 where
  pub is : IsGcd a b (g * 2 ^ t)
  pub fits : g * 2 ^ t < most

pub halved : (w : Width) (a b g : ℕ) → 0 < a → a < 2 ^ bits w → 0 < b → b < 2 ^ bits w → trailing_zeros w a ≤ trailing_zeros w b
    → IsGcd (a / 2 ^ trailing_zeros w a) (b / 2 ^ trailing_zeros w a) g → IsHalved a b g (trailing_zeros w a) (2 ^ bits w)
halved w a b g sa fa sb fb le h =
    let t = trailing_zeros w a in
    let ea : a / 2 ^ t * 2 ^ t ≡ a = twos_back t a (even_to w a t sa fa (omega arith)) in
    let eb : b / 2 ^ t * 2 ^ t ≡ b = twos_back t b (even_to w b t sb fb le) in
    let is : IsGcd a b (g * 2 ^ t) = subst (λ z. IsGcd z b (g * 2 ^ t)) ea (subst (λ z. IsGcd (a / 2 ^ t * 2 ^ t) z (g * 2 ^ t)) eb (IsGcd-times (a / 2 ^ t) (b / 2 ^ t) (2 ^ t) g h)) in
    let most : g * 2 ^ t ≤ a = le_of_dvd sa is.0 in
    record { is = is; fits = omega (arith, most, fa) }
