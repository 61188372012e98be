-- How numbers stand, by their cross products.
use Rattle.std.proofs.Common.{◌≡◌, ℤ, pos, ◌*ℤ◌, ◌<ℤ◌, ◌∙◌, ⊎_elim, sym, ap, subst, refl, arith}
use Rattle.std.specs.Cmp.{IsTotalOrder}
use Rattle.std.specs.Ordering.{int_cmp, ordering_reverse, eq_by_cmp}
use Rattle.std.specs.declared.cmp.Ordering.{Ordering}
use Rattle.std.specs.declared.cmp.Ordering.TheVariants.{Less, Equal, Greater}
use Rattle.std.proofs.lemmas.Int.{ints, by_lt_z}
use mathlib.Core.Bool.{true, false}
use Rattle.algebra.proofs.Integers as Z
use Rattle.algebra.proofs.Order as O
use Rattle.rational.specs.Rational.{ℚ, make, ◌≤ℚ◌, cmp_ℚ, IsOrder}
use Rattle.rational.proofs.Rationals.{den_above, le_refl, le_total, le_trans, make-le, make-parts, make-same}

pub cmp_less : (x y : ℤ) → x <ℤ y → int_cmp x y ≡ Less
cmp_less x y h = grind (arith, ints)

pub cmp_greater : (x y : ℤ) → y <ℤ x → int_cmp x y ≡ Greater
cmp_greater x y h = grind (arith, ints)

pub cmp_equal : (x : ℤ) → int_cmp x x ≡ Equal
cmp_equal x = grind (arith, ints)

-- the order of the cross products is that of the fractions
pub cross_order : (a b c d : ℤ) → pos 0 <ℤ b → pos 0 <ℤ d → IsOrder (make a b) (make c d) (int_cmp (a *ℤ d) (c *ℤ b))
cross_order a b c d pb pd =
    by_lt_z (a *ℤ d) (c *ℤ b)
    (λ less. rw (cmp_less (a *ℤ d) (c *ℤ b) less) (λ back. let l = make-le c d a b pd pb back in absurd (omega (arith, O.linear, l, less))))
    (λ most.
    by_lt_z (c *ℤ b) (a *ℤ d)
    (λ more. rw (cmp_greater (a *ℤ d) (c *ℤ b) more) (λ back. let l = make-le a b c d pb pd back in absurd (omega (arith, O.linear, l, more))))
    (λ least.
    let same : a *ℤ d ≡ c *ℤ b = O.le_antisym (a *ℤ d) (c *ℤ b) least most in
    rw (same, cmp_equal (c *ℤ b)) (make-same a b c d pb pd same)))

-- a positive factor keeps an order
pub cmp-times : (a c b : ℤ) → pos 0 <ℤ b → int_cmp (a *ℤ b) (c *ℤ b) ≡ int_cmp a c
cmp-times a c b p =
    by_lt_z a c
    (λ less. cmp_less (a *ℤ b) (c *ℤ b) (let l = O.mul_lt b a c p less in omega (arith, O.linear, l, Z.mul_comm b a, Z.mul_comm b c)) ∙ sym (cmp_less a c less))
    (λ most.
    by_lt_z c a
    (λ more. cmp_greater (a *ℤ b) (c *ℤ b) (let l = O.mul_lt b c a p more in omega (arith, O.linear, l, Z.mul_comm b a, Z.mul_comm b c)) ∙ sym (cmp_greater a c more))
    (λ least. let same : a ≡ c = O.le_antisym a c least most in ap (λ z. int_cmp (z *ℤ b) (c *ℤ b)) same ∙ cmp_equal (c *ℤ b) ∙ sym (cmp_equal c) ∙ ap (λ z. int_cmp z c) (sym same)))

pub order_of : (x y : ℚ) → IsOrder x y (cmp_ℚ x y)
order_of x y =
    subst (λ z. IsOrder z y (cmp_ℚ x y)) (make-parts x)
    (subst (λ z. IsOrder (make x.num x.den) z (cmp_ℚ x y)) (make-parts y) (cross_order x.num x.den y.num y.den (den_above x) (den_above y)))

both_ways : (x y : ℚ) → (y ≤ℚ x → ⊥) → (x ≤ℚ y → ⊥) → ⊥
both_ways x y h k = ⊎_elim k h (le_total x y)

same_le : (x y : ℚ) → x ≡ y → x ≤ℚ y
same_le x y e = subst (λ z. x ≤ℚ z) e (le_refl x)

-- two numbers stand in one way
pub one_order : (x y : ℚ) (o p : Ordering) → IsOrder x y o → IsOrder x y p → o ≡ p
one_order x y Less Less h k = refl
one_order x y Less Equal h k = absurd (h (same_le y x (sym k)))
one_order x y Less Greater h k = absurd (both_ways x y h k)
one_order x y Equal Less h k = absurd (k (same_le y x (sym h)))
one_order x y Equal Equal h k = refl
one_order x y Equal Greater h k = absurd (k (same_le x y h))
one_order x y Greater Less h k = absurd (both_ways x y k h)
one_order x y Greater Equal h k = absurd (h (same_le x y k))
one_order x y Greater Greater h k = refl

turned : (x y : ℚ) (o : Ordering) → IsOrder y x o → IsOrder x y (ordering_reverse o)
turned x y Less h = h
turned x y Equal h = sym h
turned x y Greater h = h

pub cmp-order : (x y : ℚ) (o : Ordering) → IsOrder x y o → cmp_ℚ x y ≡ o
cmp-order x y o h = one_order x y (cmp_ℚ x y) o (order_of x y) h

pub order-cmp : (x y : ℚ) (o : Ordering) → cmp_ℚ x y ≡ o → IsOrder x y o
order-cmp x y o e = subst (IsOrder x y) e (order_of x y)

pub cmp_total : IsTotalOrder cmp_ℚ
cmp_total = record {
  antisymm = λ x y. cmp-order x y (ordering_reverse (cmp_ℚ y x)) (turned x y (cmp_ℚ y x) (order_of y x));
  trans = λ x y z h k.
      let xy : y ≤ℚ x → ⊥ = order-cmp x y Less h in
      let yz : z ≤ℚ y → ⊥ = order-cmp y z Less k in
      cmp-order x z Less (λ p. ⊎_elim (λ q. xy (le_trans y z x q p)) yz (le_total y z));
  congr = λ x y z h. ap (λ w. cmp_ℚ w z) (order-cmp x y Equal h);
}

-- equal numbers compare as equal, and no others
pub eq-same : (x y : ℚ) → x ≡ y → eq_by_cmp cmp_ℚ x y ≡ true
eq-same x y e = rw (cmp-order x y Equal e) refl

is_eq-less : (x y : ℚ) (o : Ordering) → cmp_ℚ x y ≡ o → (x ≡ y → ⊥) → eq_by_cmp cmp_ℚ x y ≡ false
is_eq-less x y Less e ne = rw e refl
is_eq-less x y Equal e ne = absurd (ne (order-cmp x y Equal e))
is_eq-less x y Greater e ne = rw e refl

pub eq-other : (x y : ℚ) → (x ≡ y → ⊥) → eq_by_cmp cmp_ℚ x y ≡ false
eq-other x y ne = is_eq-less x y (cmp_ℚ x y) refl ne
