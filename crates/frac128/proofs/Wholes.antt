-- Whole numbers, opposites and signs by the numerator.
use Rattle.std.proofs.Common.{◌≡◌, ◌≢◌, true, false, ℤ, pos, ◌<ℤ◌, ◌≤ℤ◌, ◌-ℤ◌, neg_ℤ, ◌∙◌, refl, sym, ap, subst, arith, rules, unsigned_abs}
use lib.Signed.{lt_z}
use Rattle.std.proofs.lemmas.Int.{ints}
use Rattle.std.specs.Int.{IsGcd}
use native.Mathlib.Nat.{dvd_refl, one-dvd}
use Rattle.algebra.specs.Fractions.{IsLowest}
use Rattle.algebra.proofs.Integers as Z
use Rattle.rational.specs.Rational.{ℚ, make, neg_ℚ, whole, ◌≤ℚ◌}
use Rattle.rational.proofs.Rationals as Q
use Rattle.rational.proofs.Rationals.{den_above, le-make, make-le, make-parts, neg-make, one_above}
use Rattle.frac128.proofs.Multiples.{num_from_zero, zero_from_num}

pub whole_lowest : (n : ℤ) → IsLowest n (pos 1)
whole_lowest n = (one_above, (one-dvd (unsigned_abs n), dvd_refl 1, λ k a b. b))

pub whole_made : (n : ℤ) → make n (pos 1) ≡ whole n
unfolding whole
whole_made n = refl

abs_opposite : (z : ℤ) → unsigned_abs z ≡ unsigned_abs (pos 0 -ℤ z)
abs_opposite z = omega (arith, ints)

pub opposite_lowest : (n d : ℤ) → IsLowest n d → IsLowest (pos 0 -ℤ n) d
opposite_lowest n d l = (l.0, subst (λ k. IsGcd k (unsigned_abs d) 1) (abs_opposite n) l.1)

pub opposite_made : (n d : ℤ) (x : ℚ) → pos 0 <ℤ d → make n d ≡ x → make (pos 0 -ℤ n) d ≡ neg_ℚ x
opposite_made n d x above is = ap (λ m. make m d) (Z.zero_add (neg_ℤ n)) ∙ sym (neg-make n d above) ∙ ap neg_ℚ is

-- ---- signs
num_at_most : (x : ℚ) → x ≤ℚ whole (pos 0) → x.num ≤ℤ pos 0
unfolding whole
num_at_most x h =
    let c = make-le x.num x.den (pos 0) (pos 1) (den_above x) one_above (subst (λ y. y ≤ℚ make (pos 0) (pos 1)) (sym (make-parts x)) h) in
    omega (arith, ints, Z.mul_one x.num)

pub at_most : (x : ℚ) → x.num ≤ℤ pos 0 → x ≤ℚ whole (pos 0)
unfolding whole
at_most x h = subst (λ y. y ≤ℚ make (pos 0) (pos 1)) (make-parts x) (le-make x.num x.den (pos 0) (pos 1) (den_above x) one_above (omega (arith, ints, Z.mul_one x.num, h)))

pub at_least : (x : ℚ) → pos 0 ≤ℤ x.num → whole (pos 0) ≤ℚ x
at_least x h = subst (λ y. whole (pos 0) ≤ℚ y) (make-parts x) (Q.num-nonneg x.num x.den (den_above x) h)

pub negative_num : (x : ℚ) → x.num <ℤ pos 0 → whole (pos 0) ≤ℚ x → ⊥
negative_num x h low = let c = Q.nonneg-num x low in omega (arith, ints, h)

pub positive_num : (x : ℚ) → pos 0 <ℤ x.num → x ≤ℚ whole (pos 0) → ⊥
positive_num x h low = let c = num_at_most x low in omega (arith, ints, h)

pub zero_num : (x : ℚ) → x.num ≡ pos 0 → x ≡ whole (pos 0)
zero_num x e = sym (make-parts x) ∙ ap (λ n. make n x.den) e ∙ zero_from_num x.den (den_above x)

pub some_num : (x : ℚ) → x.num ≢ pos 0 → x ≢ whole (pos 0)
some_num x other e = other (num_from_zero x.num x.den x.lowest (make-parts x ∙ e))

-- ---- tests of whole numbers
pub lt_true : (a b : ℤ) → lt_z a b ≡ true → a <ℤ b
lt_true a b h = search (rules, h)

pub lt_false : (a b : ℤ) → lt_z a b ≡ false → b ≤ℤ a
lt_false a b h = search (rules, h)
