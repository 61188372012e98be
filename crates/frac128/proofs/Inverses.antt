-- One by a number.
use Rattle.std.proofs.Common.{Option, Some, None, true, false, rules, ◌≡◌, ◌≢◌, ℤ, pos, negsuc, ◌-ℤ◌, neg_ℤ, ◌<ℤ◌, ◌∙◌, unsigned_abs, sym, subst, refl, arith}
use Rattle.std.proofs.lemmas.Int.{ints, by_lt_z}
use lib.Signed.{lt_z, ◌≤ℤ◌}
use lib.Dec.{T}
use Rattle.std.specs.Option.{SomeIff}
use Rattle.algebra.proofs.Order as O
use Rattle.std.proofs.lemmas.Nat.Gcd.{IsGcd-swap}
use Rattle.algebra.specs.Fractions.{IsLowest}
use Rattle.algebra.proofs.Integers as Z
use Rattle.rational.specs.Rational.{ℚ, inv_ℚ, make}
use Rattle.frac128.specs.Limits.{IsSmall}

pub inv_positive : (x : ℚ) (a b : ℤ) → x.num ≡ a → x.den ≡ b → pos 0 <ℤ a → inv_ℚ x ≡ make b a
unfolding inv_ℚ
inv_positive x (pos n) b ea eb p = rw (ea, eb) refl
inv_positive x (negsuc n) b ea eb p = absurd (omega (arith, ints))

inv_below : (x : ℚ) (a b : ℤ) → x.num ≡ a → x.den ≡ b → a <ℤ pos 0 → inv_ℚ x ≡ make (neg_ℤ b) (neg_ℤ a)
unfolding inv_ℚ
inv_below x (pos n) b ea eb p = absurd (omega (arith, ints))
inv_below x (negsuc n) b ea eb p = rw (ea, eb) refl

pub inv_negative : (x : ℚ) (a b : ℤ) → x.num ≡ a → x.den ≡ b → a <ℤ pos 0 → inv_ℚ x ≡ make (pos 0 -ℤ b) (pos 0 -ℤ a)
inv_negative x a b ea eb p = inv_below x a b ea eb p ∙ rw (Z.zero_add (neg_ℤ b), Z.zero_add (neg_ℤ a)) refl

abs_negated : (z : ℤ) → unsigned_abs (pos 0 -ℤ z) ≡ unsigned_abs z
abs_negated z = omega (arith, ints)

pub swapped : (a b : ℤ) → IsLowest a b → pos 0 <ℤ a → IsLowest b a
swapped a b low p = (p, IsGcd-swap (unsigned_abs a) (unsigned_abs b) 1 low.1)

pub negated : (a b : ℤ) → IsLowest a b → a <ℤ pos 0 → IsLowest (pos 0 -ℤ b) (pos 0 -ℤ a)
negated a b low p = (omega (arith, ints), rw (abs_negated a, abs_negated b) (IsGcd-swap (unsigned_abs a) (unsigned_abs b) 1 low.1))

pub small_negated : (z : ℤ) → IsSmall z → IsSmall (pos 0 -ℤ z)
small_negated z h = omega (arith, abs_negated z)

not_above : (a : ℤ) → lt_z (pos 0) a ≡ false → a ≤ℤ pos 0
not_above a e = by_lt_z (pos 0) a (λ l. let t : lt_z (pos 0) a ≡ true = search (rules, l) in absurd (cc (t, e))) (λ h. h)

pub below_zero : (a : ℤ) → lt_z (pos 0) a ≡ false → a ≢ pos 0 → a <ℤ pos 0
below_zero a e ne = by_lt_z a (pos 0) (λ h. h) (λ least. absurd (ne (O.le_antisym a (pos 0) (not_above a e) least)))

-- a rule with another condition that holds
pub also : {A : Type 0} (r : Option A) (P Q : Type 0) (v : A) → Q → SomeIff r P v → SomeIff r (Q × P) v
also None P Q v q h = λ both. h both.1
also (Some x) P Q v q h = ((q, h.0), h.1)

pub above_zero : (a : ℤ) → lt_z (pos 0) a ≡ true → pos 0 <ℤ a
above_zero a e = record { lt = subst T (sym e) tt }
