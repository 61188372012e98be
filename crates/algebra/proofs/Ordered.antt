-- Ordered commutative rings, as ℤ or the rationals.
use Rattle.std.proofs.Common.{◌≡◌, ap, ◌∙◌, sym, refl, subst, List}
use mathlib.Core.Logic.{◌⊎◌}
use lib.IntN.{ℤ, pos}
use lib.Signed.{◌≤ℤ◌, ≤ℤ_refl}
use Rattle.algebra.proofs.Order as Z
use Rattle.algebra.proofs.Rings as C
use Rattle.algebra.proofs.Rings.{CommRing, int_ring, Expr, var, con, ◌⊕◌, ◌⊖◌, ◌⊗◌, ◌⊜◌, Equation, Holds, eval, residue, none, solve, ring2, ring3}

pub record OrderedRing (A : Type 0) : Type 1 where
  pub ring : CommRing A
  pub open ring use *
  pub le : A → A → Type 0
  pub le_refl : (a : A) → le a a
  pub le_trans : (a b c : A) → le a b → le b c → le a c
  pub le_antisym : (a b : A) → le a b → le b a → a ≡ b
  pub le_total : (a b : A) → le a b ⊎ le b a
  pub add_le : (c a b : A) → le a b → le (add c a) (add c b)
  pub mul_nonneg : (a b : A) → le (of_int (pos 0)) a → le (of_int (pos 0)) b → le (of_int (pos 0)) (mul a b)

abbrev pub int_ordered : OrderedRing ℤ
int_ordered = record { ring = int_ring; le = ◌≤ℤ◌; le_refl = ≤ℤ_refl; le_trans = Z.le_trans; le_antisym = Z.le_antisym; le_total = Z.le_total; add_le = Z.add_le_left; mul_nonneg = Z.mul_nonneg }

module _ {A : Type 0} (R : OrderedRing A) where
  open R use {add, mul, neg, of_int, le, ring}

  abbrev zero' : A
  zero' = of_int (pos 0)

  pub from_difference_le : (a b : A) → le zero' (add b (neg a)) → le a b
  from_difference_le a b h = subst (λ x. le x b) (C.add_zero ring a) (subst (λ x. le (add a zero') x) (ring2 ring (λ a b. a ⊕ (b ⊖ a) ⊜ b) refl a b) (R.add_le a zero' (add b (neg a)) h))

  pub to_difference_le : (a b : A) → le a b → le zero' (add b (neg a))
  to_difference_le a b h = subst (λ x. le x (add b (neg a))) (R.neg_add a) (subst (λ x. le (add (neg a) a) x) (R.add_comm (neg a) b) (R.add_le (neg a) a b h))

  pub add_nonneg : (a b : A) → le zero' a → le zero' b → le zero' (add a b)
  add_nonneg a b p q = R.le_trans zero' a (add a b) p (subst (λ x. le x (add a b)) (C.add_zero ring a) (R.add_le a zero' b q))

  pub mul_le : (c a b : A) → le zero' c → le a b → le (mul c a) (mul c b)
  mul_le c a b p q = from_difference_le (mul c a) (mul c b) (subst (λ x. le zero' x) (ring3 ring (λ c a b. c ⊗ (b ⊖ a) ⊜ c ⊗ b ⊖ c ⊗ a) refl c a b) (R.mul_nonneg c (add b (neg a)) p (to_difference_le a b q)))

  pub add_le_both : (a b c d : A) → le a b → le c d → le (add a c) (add b d)
  add_le_both a b c d p q = R.le_trans (add a c) (add a d) (add b d) (R.add_le a c d q) (subst (λ x. le x (add b d)) (R.add_comm d a) (subst (λ x. le (add d a) x) (R.add_comm d b) (R.add_le d a b p)))

  pub mul_le_right : (c a b : A) → le zero' c → le a b → le (mul a c) (mul b c)
  mul_le_right c a b p q = subst (λ x. le x (mul b c)) (R.mul_comm c a) (subst (λ x. le (mul c a) x) (R.mul_comm c b) (mul_le c a b p q))
