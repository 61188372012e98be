-- Rational numbers that the proofs use.
use Rattle.std.proofs.Common.{◌≡◌, ◌≢◌, ◌<◌, ◌∙◌, ℕ, refl, sym, ap, subst, arith}
use Rattle.std.specs.Prelude.{pos, negsuc, if◌then◌else◌, ◌==◌}
use Rattle.rational.specs.Rational.{ℚ, whole, inv_ℚ, neg_ℚ, ◌+ℚ◌, ◌-ℚ◌}
use Rattle.rational.proofs.Rationals.{den_above, inv-mul, one_above, rational_ring}
use Rattle.rational.specs.Rational.{make}
use Rattle.frac128.specs.Limits.{Fits, IsSmall, quotient_ℚ}
use Rattle.frac128.proofs.Multiples.{parts_fit}
use Rattle.algebra.specs.Fractions.{IsLowest}
use native.Mathlib.Nat.{dvd_refl, one-dvd}
use Rattle.std.specs.Int.{IsGcd}
use Rattle.std.specs.Option.{SomeIff}
use Rattle.std.specs.Prelude.{ℤ, ◌<ℤ◌, ◌-ℤ◌, neg_ℤ, unsigned_abs, Option, None, Some, IsSome}
use Rattle.std.proofs.lemmas.Int.{ints}
use Rattle.rational.proofs.Rationals as Q
use Rattle.algebra.proofs.Rings.{con, ◌⊕◌, ◌⊖◌, ◌⊗◌}
use Rattle.algebra.proofs.Claims.{same4, so, from}
use Rattle.algebra.proofs.Sums.{sum-only}
use Rattle.tableau.specs.Program.{sum_ℚ, zero_ℚ}

pub if_same : (a b : ℕ) (x y : ℚ) → a ≡ b → (if a == b then x else y) ≡ x
if_same a b x y e = grind (arith, e)

pub if_other : (a b : ℕ) (x y : ℚ) → a ≢ b → (if a == b then x else y) ≡ y
if_other a b x y e = grind (arith, e)

-- only the term at k counts
pub sum_one : (n k : ℕ) (c : ℚ) → k < n → sum_ℚ n (λ t. if t == k then c else zero_ℚ) ≡ c
sum_one n k c less = sum-only rational_ring n k (λ t. if t == k then c else zero_ℚ) less (λ t small other. if_other t k c zero_ℚ other) ∙ if_same k k c zero_ℚ refl

-- one by the opposite is the opposite of one by it
pub inv_opposite : (p : ℚ) → p ≢ zero_ℚ → neg_ℚ p ≢ zero_ℚ → inv_ℚ (neg_ℚ p) ≡ zero_ℚ -ℚ inv_ℚ p
inv_opposite p some other =
    same4 rational_ring (λ p q r m. from (con (negsuc 0) ⊗ r) (q ⊗ p) (con (pos 1)) (from (con (negsuc 0) ⊗ q) (r ⊗ m) (con (pos 1)) (from (r ⊗ q) (m ⊕ p) (con (pos 0)) (so r (con (pos 0) ⊖ q))))) refl p (inv_ℚ p) (inv_ℚ (neg_ℚ p)) (neg_ℚ p) (inv-mul p some) (inv-mul (neg_ℚ p) other) (Q.neg_add p)

-- ---- whole numbers and opposites fit
quotient_above : (n d : ℤ) → pos 0 <ℤ d → quotient_ℚ n d ≡ make n d
quotient_above n (pos d) above = refl
quotient_above n (negsuc d) above = absurd (omega (arith, ints, above))

not_zero_above : (d : ℤ) → pos 0 <ℤ d → d ≢ pos 0
not_zero_above d above e = omega (arith, ints, above, e)

opposite_lowest : (n d : ℤ) → IsLowest n d → IsLowest (neg_ℤ n) d
opposite_lowest n d l = (l.0, subst (λ k. IsGcd k (unsigned_abs d) 1) (abs_opposite n) l.1)
  where
    abs_opposite : (z : ℤ) → unsigned_abs z ≡ unsigned_abs (neg_ℤ z)
    abs_opposite z = omega (arith, ints)

pub opposite_fits : (x : ℚ) (m d : ℤ) → m ≡ neg_ℤ x.num → d ≡ x.den → IsSmall x.num → IsSmall x.den → ((d ≢ pos 0) × Fits (quotient_ℚ m d)) × (quotient_ℚ m d ≡ zero_ℚ -ℚ x)
unfolding neg_ℚ
opposite_fits x m d top bottom small_num small_den =
    let above : pos 0 <ℤ d = subst (λ k. pos 0 <ℤ k) (sym bottom) (den_above x) in
    let value : quotient_ℚ m d ≡ make (neg_ℤ x.num) x.den = quotient_above m d above ∙ ap (λ n. make n d) top ∙ ap (make (neg_ℤ x.num)) bottom in
    let fits : Fits (make (neg_ℤ x.num) x.den) = parts_fit (neg_ℤ x.num) x.den (make (neg_ℤ x.num) x.den) (opposite_lowest x.num x.den x.lowest) refl (omega (arith, ints, small_num)) small_den in
    ((not_zero_above d above, subst Fits (sym value) fits), value ∙ sym (Q.zero_add (neg_ℚ x)))

pub not_opposite_zero : (x : ℚ) → x ≢ zero_ℚ → neg_ℚ x ≢ zero_ℚ
not_opposite_zero x some e = some (sym (Q.zero_add x) ∙ ap (λ y. y +ℚ x) (sym e) ∙ Q.neg_add x)

pub whole_fits : (n : ℤ) → IsSmall n → ((pos 1 ≢ pos 0) × Fits (quotient_ℚ n (pos 1))) × (quotient_ℚ n (pos 1) ≡ whole n)
unfolding whole
whole_fits n small = ((not_zero_above (pos 1) one_above, parts_fit n (pos 1) (make n (pos 1)) (one_lowest n) refl small (omega arith)), refl)
  where
    one_lowest : (n : ℤ) → IsLowest n (pos 1)
    one_lowest n = (one_above, (one-dvd (unsigned_abs n), dvd_refl 1, λ k a b. b))

pub is_some : {T : Type 0} (r : Option T) (P : Type 0) (v : T) → SomeIff r P v → P → r ≡ Some v
is_some None P v h some = absurd (h some)
is_some (Some x) P v h some = ap Some h.1

pub some_is : {T : Type 0} (r : Option T) (P : Type 0) (v : T) → SomeIff r P v → P → IsSome r
some_is None P v h some = absurd (h some)
some_is (Some x) P v h some = refl

pub some_value : {T : Type 0} (r : Option T) (P : Type 0) (v x : T) → SomeIff r P v → r ≡ Some x → x ≡ v
some_value r P v x h is = (subst (λ o. SomeIff o P v) is h).1

pub minus_is : (n : ℤ) → pos 0 -ℤ n ≡ neg_ℤ n
minus_is n = omega (arith, ints)
