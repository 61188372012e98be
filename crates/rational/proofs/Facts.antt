-- Whole numbers among the rationals, strict order, division, floor and ceiling.
use Rattle.std.proofs.Common.{◌≡◌, ℕ, zero, suc, arith, ap, ◌∙◌, sym, refl, subst, ⊎_elim}
use lib.IntN.{ℤ, pos, negsuc, ◌+ℤ◌, ◌*ℤ◌, neg_ℤ}
use lib.Signed.{◌≤ℤ◌, ◌<ℤ◌}
use Rattle.std.specs.Int.{int_div_euclid}
use Rattle.algebra.proofs.Lowest.{floor_is}
use Rattle.std.proofs.lemmas.Int.{ints}
use Rattle.algebra.specs.Sums.{sum_with}
use Rattle.algebra.proofs.Integers as Z
use Rattle.algebra.proofs.Order as O
use Rattle.algebra.proofs.Rings.{con, ◌⊖◌, ◌⊗◌}
use Rattle.algebra.proofs.Claims.{le2, le4, so, from, from_times, from_same}
use Rattle.rational.specs.Rational.{make, floor_ℚ, ceil_ℚ, IsFloor, IsCeiling, ℚ, ◌+ℚ◌, ◌*ℚ◌, ◌-ℚ◌, whole, ◌≤ℚ◌, inv_ℚ}
use Rattle.rational.proofs.Rationals as Q
use Rattle.rational.proofs.Rationals.{le-make, make-le, one_above, rational_ring, rational_ordered, whole-add, inv-mul, make-parts, den_above, whole-le-make}

pub whole-le : (m n : ℤ) → m ≤ℤ n → whole m ≤ℚ whole n
unfolding whole
whole-le m n h = le-make m (pos 1) n (pos 1) one_above one_above (omega (arith, ints))

pub le-whole : (m n : ℤ) → whole m ≤ℚ whole n → m ≤ℤ n
unfolding whole
le-whole m n h = let e = make-le m (pos 1) n (pos 1) one_above one_above h in omega (arith, ints)

pub whole-inj : (m n : ℤ) → whole m ≡ whole n → m ≡ n
whole-inj m n e = O.le_antisym m n (le-whole m n (subst (λ x. whole m ≤ℚ x) e (Q.le_refl (whole m)))) (le-whole n m (subst (λ x. x ≤ℚ whole m) e (Q.le_refl (whole m))))

pub whole-sum : (n : ℕ) (f : ℕ → ℤ) → whole (sum_with ◌+ℤ◌ (pos 0) n f) ≡ sum_with ◌+ℚ◌ (whole (pos 0)) n (λ i. whole (f i))
whole-sum zero f = refl
whole-sum (suc n) f = whole-add (sum_with ◌+ℤ◌ (pos 0) n f) (f n) ∙ ap (λ x. x +ℚ whole (f n)) (whole-sum n f)

-- strict order
abbrev pub ◌<ℚ◌ : ℚ → ℚ → Type 0
x <ℚ y = ¬ (y ≤ℚ x)

infix 4 ◌<ℚ◌
pub lt-le : (x y : ℚ) → x <ℚ y → x ≤ℚ y
lt-le x y h = ⊎_elim (λ p. p) (λ p. absurd (h p)) (Q.le_total x y)

pub lt-le_trans : (x y z : ℚ) → x <ℚ y → y ≤ℚ z → x <ℚ z
lt-le_trans x y z h p = λ q. h (Q.le_trans y z x p q)

-- a positive factor is cancelled, and a product of positive numbers is positive
inv_above : (c : ℚ) → whole (pos 0) <ℚ c → whole (pos 0) ≤ℚ inv_ℚ c
inv_above c h = ⊎_elim (λ p. p) (λ p. absurd (absurd_one (le2 rational_ordered (λ c i. from_times (con (pos 0) ⊖ i) (con (pos 0)) c (so (con (pos 0)) ((con (pos 0) ⊖ i) ⊗ c))) refl c (inv_ℚ c) (le1 p) (lt-le _ _ h)))) (Q.le_total (whole (pos 0)) (inv_ℚ c))
  where
    e : inv_ℚ c *ℚ c ≡ whole (pos 1)
    e = inv-mul c (λ q. h (subst (λ x. x ≤ℚ whole (pos 0)) (sym q) (Q.le_refl (whole (pos 0)))))

    le1 : inv_ℚ c ≤ℚ whole (pos 0) → whole (pos 0) ≤ℚ (whole (pos 0) -ℚ inv_ℚ c)
    le1 = le2 rational_ordered (λ c i. from 1 i (con (pos 0)) (so (con (pos 0)) (con (pos 0) ⊖ i))) refl c (inv_ℚ c)

    absurd_one : whole (pos 0) ≤ℚ ((whole (pos 0) -ℚ inv_ℚ c) *ℚ c) → ⊥
    absurd_one p = let q : whole (pos 1) ≤ℚ whole (pos 0) = le2 rational_ordered (λ c i. from_same (con (negsuc 0)) (i ⊗ c) (con (pos 1)) (from 1 (con (pos 0)) ((con (pos 0) ⊖ i) ⊗ c) (so (con (pos 1)) (con (pos 0))))) refl c (inv_ℚ c) e p in
        let z = le-whole (pos 1) (pos 0) q in omega (arith, ints)

pub cancel_le : (c x y : ℚ) → whole (pos 0) <ℚ c → (c *ℚ x) ≤ℚ (c *ℚ y) → x ≤ℚ y
cancel_le c x y h p =
    le4 rational_ordered (λ c i x y. from_times i (c ⊗ x) (c ⊗ y) (from_same (y ⊖ x) (i ⊗ c) (con (pos 1)) (so x y))) refl c (inv_ℚ c) x y (inv_above c h) p e
  where
    e : inv_ℚ c *ℚ c ≡ whole (pos 1)
    e = inv-mul c (λ q. h (subst (λ x. x ≤ℚ whole (pos 0)) (sym q) (Q.le_refl (whole (pos 0)))))

-- ---- floor and ceiling
-- a fraction against a whole number
make-le_whole : (n d z : ℤ) → pos 0 <ℤ d → n ≤ℤ (z *ℤ d) → make n d ≤ℚ whole z
unfolding whole
make-le_whole n d z p h = le-make n d z (pos 1) p one_above (omega (arith, ints, Z.mul_one n))

le_whole-make : (n d z : ℤ) → pos 0 <ℤ d → make n d ≤ℚ whole z → n ≤ℤ (z *ℤ d)
unfolding whole
le_whole-make n d z p h = let e = make-le n d z (pos 1) p one_above h in omega (arith, ints, Z.mul_one n)

make_whole-le : (n d z : ℤ) → pos 0 <ℤ d → whole z ≤ℚ make n d → (z *ℤ d) ≤ℤ n
unfolding whole
make_whole-le n d z p h = let e = make-le z (pos 1) n d one_above p h in omega (arith, ints, Z.mul_one n)

-- ---- a whole number within a unit of n/d
above_floor : (d f z n : ℤ) → pos 0 <ℤ d → (z *ℤ d) ≤ℤ n → n <ℤ ((f +ℤ pos 1) *ℤ d) → z ≤ℤ f
above_floor d f z n p h k =
    let l = O.cancel_lt d z (f +ℤ pos 1) p (omega (arith, O.linear, Z.mul_comm d z, Z.mul_comm d (f +ℤ pos 1), h, k)) in
    omega (arith, O.linear, l)

below_ceiling : (d f z n : ℤ) → pos 0 <ℤ d → n ≤ℤ (z *ℤ d) → neg_ℤ n <ℤ ((f +ℤ pos 1) *ℤ d) → neg_ℤ f ≤ℤ z
below_ceiling d f z n p h k =
    let l = O.cancel_lt d (neg_ℤ (f +ℤ pos 1)) z p (omega (arith, O.linear, Z.mul_comm d z, Z.mul_comm d (f +ℤ pos 1), Z.mul_neg d (f +ℤ pos 1), h, k)) in
    omega (arith, O.linear, l)

floor_parts : (x : ℚ) → IsFloor (make x.num x.den) (floor_ℚ x)
floor_parts x =
    let d = den_above x in
    let f = floor_is x.num x.den d in
    record {
      below = whole-le-make (floor_ℚ x) x.num x.den d f.0;
      greatest = λ z h. above_floor x.den (floor_ℚ x) z x.num d (make_whole-le x.num x.den z d h) f.1;
    }

pub is_floor : (x : ℚ) → IsFloor x (floor_ℚ x)
is_floor x = subst (λ y. IsFloor y (floor_ℚ x)) (make-parts x) (floor_parts x)

ceiling_parts : (x : ℚ) → IsCeiling (make x.num x.den) (ceil_ℚ x)
ceiling_parts x =
    let d = den_above x in
    let f = floor_is (neg_ℤ x.num) x.den d in
    record {
      above = make-le_whole x.num x.den (ceil_ℚ x) d (omega (arith, O.linear, Z.neg_mul (int_div_euclid (neg_ℤ x.num) x.den) x.den, f.0));
      least = λ z h. below_ceiling x.den (int_div_euclid (neg_ℤ x.num) x.den) z x.num d (le_whole-make x.num x.den z d h) f.1;
    }

pub is_ceiling : (x : ℚ) → IsCeiling x (ceil_ℚ x)
is_ceiling x = subst (λ y. IsCeiling y (ceil_ℚ x)) (make-parts x) (ceiling_parts x)
