use Rattle.std.proofs.Common.{⊎_elim, inl, inr, ◌≡◌, zero, suc, arith, ap, ◌∙◌, sym, refl, subst}
use native.Mathlib.Nat.{∣_prop}
use lib.IntN.{ℤ, pos, negsuc, ◌+ℤ◌, ◌*ℤ◌, neg_ℤ}
use lib.Signed.{◌≤ℤ◌, ◌<ℤ◌, lt_z, ≤ℤ_refl}
use lib.Dec.{T_prop}
use Rattle.std.proofs.lemmas.Int.{ints}
use Rattle.std.specs.Prelude.{unsigned_abs}
use Rattle.algebra.specs.Fractions.{IsLowest, SameFraction}
use Rattle.algebra.proofs.Divisors.{euclid}
use Rattle.algebra.proofs.Lowest.{divided, above_zero, gcd_above, IsLowest-unique}
use Rattle.algebra.proofs.Integers as Z
use Rattle.algebra.proofs.Integers.{neg_mul}
use Rattle.algebra.proofs.Rings.{CommRing, con, int_ring, ring2, ring3, ring4, ring6, ◌⊕◌, ◌⊗◌, ◌⊜◌}
use mathlib.Core.Logic.{◌≢◌, ◌⊎◌}
use Rattle.algebra.proofs.Order.{cancel_eq, cancel_le, mul_pos, linear}
use Rattle.algebra.proofs.Claims.{from, from_same, from_times, le6, le8, same8, so}
use Rattle.algebra.proofs.Ordered.{OrderedRing, int_ordered}
use Rattle.algebra.proofs.Order as O
use Rattle.rational.specs.Rational.{ℚ, make, ◌+ℚ◌, ◌*ℚ◌, neg_ℚ, whole, ◌≤ℚ◌, inv_ℚ, upside_down}

above-prop : (d : ℤ) → IsProp (pos 0 <ℤ d)
above-prop d = hlevel (T_prop (lt_z (pos 0) d))

IsLowest-prop : (n d : ℤ) → IsProp (IsLowest n d)
IsLowest-prop n d = hlevel (above-prop d, ∣_prop)

abbrev of : (n d : ℤ) → IsLowest n d → ℚ
of n d p = record { num = n; den = d; lowest = p }

same_parts : (n d m e : ℤ) → n ≡ m → d ≡ e → (p : IsLowest n d) (q : IsLowest m e) → of n d p ≡ of m e q
same_parts n d m e r s =
    subst (λ m'. (p : IsLowest n d) (q : IsLowest m' e) → of n d p ≡ of m' e q) r
    (subst (λ e'. (p : IsLowest n d) (q : IsLowest n e') → of n d p ≡ of n e' q) s
    (λ p q. ap (of n d) (IsLowest-prop n d p q)))

-- numbers whose cross products agree are one
pub same_from_cross : (x y : ℚ) → SameFraction x.num x.den y.num y.den → x ≡ y
same_from_cross x y h = let r = IsLowest-unique x.num x.den y.num y.den x.lowest y.lowest h in same_parts x.num x.den y.num y.den r.0 r.1 x.lowest y.lowest

pub make-is : (n d : ℤ) → pos 0 <ℤ d → SameFraction (make n d).num (make n d).den n d
unfolding make
make-is n (pos (suc i)) p = let g = euclid (unsigned_abs n) (suc i) in (divided n (pos (suc i)) (pos g.0) (above_zero i) (gcd_above (unsigned_abs n) i g.0 g.1) g.1).1
make-is n (pos zero) p = absurd (omega (arith, ints))
make-is n (negsuc j) p = absurd (omega (arith, ints))

pub den_above : (x : ℚ) → pos 0 <ℤ x.den
den_above x = x.lowest.0

-- a/b ≡ n/d, n/d ≡ m/e and c/f ≡ m/e give a/b ≡ c/f
chain : (a b c f n d m e : ℤ) → pos 0 <ℤ d → pos 0 <ℤ e → a *ℤ d ≡ n *ℤ b → n *ℤ e ≡ m *ℤ d → c *ℤ e ≡ m *ℤ f → a *ℤ f ≡ c *ℤ b
chain a b c f n d m e p q h i j =
    cancel_eq (d *ℤ e) (a *ℤ f) (c *ℤ b) (mul_pos d e p q)
    (same8 int_ring (λ a b c f n d m e. from (e ⊗ f) (a ⊗ d) (n ⊗ b) (from (b ⊗ f) (n ⊗ e) (m ⊗ d) (from (con (negsuc 0) ⊗ d ⊗ b) (c ⊗ e) (m ⊗ f) (so (d ⊗ e ⊗ (a ⊗ f)) (d ⊗ e ⊗ (c ⊗ b)))))) refl a b c f n d m e h i j)

pub make-same : (n d m e : ℤ) → pos 0 <ℤ d → pos 0 <ℤ e → n *ℤ e ≡ m *ℤ d → make n d ≡ make m e
make-same n d m e p q h = same_from_cross (make n d) (make m e)
    (chain (make n d).num (make n d).den (make m e).num (make m e).den n d m e p q (make-is n d p) h (make-is m e q))

pub make-parts : (x : ℚ) → make x.num x.den ≡ x
make-parts x = same_from_cross (make x.num x.den) x (make-is x.num x.den (den_above x))

-- the operations on any two fractions
pub add-make : (n d m e : ℤ) → pos 0 <ℤ d → pos 0 <ℤ e → make n d +ℚ make m e ≡ make (n *ℤ e +ℤ m *ℤ d) (d *ℤ e)
unfolding ◌+ℚ◌
add-make n d m e p q =
    let x = make n d in
    let y = make m e in
    make-same (x.num *ℤ y.den +ℤ y.num *ℤ x.den) (x.den *ℤ y.den) (n *ℤ e +ℤ m *ℤ d) (d *ℤ e) (mul_pos x.den y.den (den_above x) (den_above y)) (mul_pos d e p q)
    (add_cross x.num x.den y.num y.den n d m e (make-is n d p) (make-is m e q))
  where
    add_cross : (a b c f n d m e : ℤ) → a *ℤ d ≡ n *ℤ b → c *ℤ e ≡ m *ℤ f → (a *ℤ f +ℤ c *ℤ b) *ℤ (d *ℤ e) ≡ (n *ℤ e +ℤ m *ℤ d) *ℤ (b *ℤ f)
    add_cross a b c f n d m e h j =
        same8 int_ring (λ a b c f n d m e. from (f ⊗ e) (a ⊗ d) (n ⊗ b) (from (b ⊗ d) (c ⊗ e) (m ⊗ f) (so ((a ⊗ f ⊕ c ⊗ b) ⊗ (d ⊗ e)) ((n ⊗ e ⊕ m ⊗ d) ⊗ (b ⊗ f))))) refl a b c f n d m e h j

pub mul-make : (n d m e : ℤ) → pos 0 <ℤ d → pos 0 <ℤ e → make n d *ℚ make m e ≡ make (n *ℤ m) (d *ℤ e)
unfolding ◌*ℚ◌
mul-make n d m e p q =
    let x = make n d in
    let y = make m e in
    make-same (x.num *ℤ y.num) (x.den *ℤ y.den) (n *ℤ m) (d *ℤ e) (mul_pos x.den y.den (den_above x) (den_above y)) (mul_pos d e p q)
    (mul_cross x.num x.den y.num y.den n d m e (make-is n d p) (make-is m e q))
  where
    mul_cross : (a b c f n d m e : ℤ) → a *ℤ d ≡ n *ℤ b → c *ℤ e ≡ m *ℤ f → (a *ℤ c) *ℤ (d *ℤ e) ≡ (n *ℤ m) *ℤ (b *ℤ f)
    mul_cross a b c f n d m e h j =
        same8 int_ring (λ a b c f n d m e. from (c ⊗ e) (a ⊗ d) (n ⊗ b) (from (n ⊗ b) (c ⊗ e) (m ⊗ f) (so ((a ⊗ c) ⊗ (d ⊗ e)) ((n ⊗ m) ⊗ (b ⊗ f))))) refl a b c f n d m e h j

pub neg-make : (n d : ℤ) → pos 0 <ℤ d → neg_ℚ (make n d) ≡ make (neg_ℤ n) d
unfolding neg_ℚ
neg-make n d p = let x = make n d in make-same (neg_ℤ x.num) x.den (neg_ℤ n) d (den_above x) p (neg_cross x.num x.den n d (make-is n d p))
  where
    neg_cross : (a b n d : ℤ) → a *ℤ d ≡ n *ℤ b → neg_ℤ a *ℤ d ≡ neg_ℤ n *ℤ b
    neg_cross a b n d h = neg_mul a d ∙ ap neg_ℤ h ∙ sym (neg_mul n b)

-- what holds of each fraction holds of each number
pub by_parts : (P : ℚ → Type 0) → ((n d : ℤ) → pos 0 <ℤ d → P (make n d)) → (x : ℚ) → P x
by_parts P h x = subst P (make-parts x) (h x.num x.den (den_above x))

-- ---- the laws of a commutative ring
pub add_comm : (x y : ℚ) → x +ℚ y ≡ y +ℚ x
add_comm = by_parts (λ x. (y : ℚ) → x +ℚ y ≡ y +ℚ x) λ a b p. by_parts (λ y. make a b +ℚ y ≡ y +ℚ make a b) λ c d q.
    add-make a b c d p q ∙ make-same (a *ℤ d +ℤ c *ℤ b) (b *ℤ d) (c *ℤ b +ℤ a *ℤ d) (d *ℤ b) (mul_pos b d p q) (mul_pos d b q p)
    (ring4 int_ring (λ a b c d. (a ⊗ d ⊕ c ⊗ b) ⊗ (d ⊗ b) ⊜ (c ⊗ b ⊕ a ⊗ d) ⊗ (b ⊗ d)) refl a b c d)
    ∙ sym (add-make c d a b q p)

assoc_parts : (a b c d e f : ℤ) → pos 0 <ℤ b → pos 0 <ℤ d → pos 0 <ℤ f → (make a b +ℚ make c d) +ℚ make e f ≡ make a b +ℚ (make c d +ℚ make e f)
assoc_parts a b c d e f p q r =
    let bd = mul_pos b d p q in
    let df = mul_pos d f q r in
    ap (λ x. x +ℚ make e f) (add-make a b c d p q)
    ∙ add-make (a *ℤ d +ℤ c *ℤ b) (b *ℤ d) e f bd r
    ∙ make-same ((a *ℤ d +ℤ c *ℤ b) *ℤ f +ℤ e *ℤ (b *ℤ d)) (b *ℤ d *ℤ f) (a *ℤ (d *ℤ f) +ℤ (c *ℤ f +ℤ e *ℤ d) *ℤ b) (b *ℤ (d *ℤ f)) (mul_pos (b *ℤ d) f bd r) (mul_pos b (d *ℤ f) p df)
    (ring6 int_ring (λ a b c d e f. ((a ⊗ d ⊕ c ⊗ b) ⊗ f ⊕ e ⊗ (b ⊗ d)) ⊗ (b ⊗ (d ⊗ f)) ⊜ (a ⊗ (d ⊗ f) ⊕ (c ⊗ f ⊕ e ⊗ d) ⊗ b) ⊗ (b ⊗ d ⊗ f)) refl a b c d e f)
    ∙ sym (ap (λ x. make a b +ℚ x) (add-make c d e f q r) ∙ add-make a b (c *ℤ f +ℤ e *ℤ d) (d *ℤ f) p df)

pub add_assoc : (x y z : ℚ) → (x +ℚ y) +ℚ z ≡ x +ℚ (y +ℚ z)
add_assoc = by_parts (λ x. (y z : ℚ) → (x +ℚ y) +ℚ z ≡ x +ℚ (y +ℚ z)) λ a b p. by_parts (λ y. (z : ℚ) → (make a b +ℚ y) +ℚ z ≡ make a b +ℚ (y +ℚ z)) λ c d q. by_parts (λ z. (make a b +ℚ make c d) +ℚ z ≡ make a b +ℚ (make c d +ℚ z)) λ e f r. assoc_parts a b c d e f p q r

pub mul_comm : (x y : ℚ) → x *ℚ y ≡ y *ℚ x
mul_comm = by_parts (λ x. (y : ℚ) → x *ℚ y ≡ y *ℚ x) λ a b p. by_parts (λ y. make a b *ℚ y ≡ y *ℚ make a b) λ c d q.
    mul-make a b c d p q ∙ make-same (a *ℤ c) (b *ℤ d) (c *ℤ a) (d *ℤ b) (mul_pos b d p q) (mul_pos d b q p)
    (ring4 int_ring (λ a b c d. (a ⊗ c) ⊗ (d ⊗ b) ⊜ (c ⊗ a) ⊗ (b ⊗ d)) refl a b c d)
    ∙ sym (mul-make c d a b q p)

mul_assoc_parts : (a b c d e f : ℤ) → pos 0 <ℤ b → pos 0 <ℤ d → pos 0 <ℤ f → (make a b *ℚ make c d) *ℚ make e f ≡ make a b *ℚ (make c d *ℚ make e f)
mul_assoc_parts a b c d e f p q r =
    let bd = mul_pos b d p q in
    let df = mul_pos d f q r in
    ap (λ x. x *ℚ make e f) (mul-make a b c d p q) ∙ mul-make (a *ℤ c) (b *ℤ d) e f bd r
    ∙ make-same (a *ℤ c *ℤ e) (b *ℤ d *ℤ f) (a *ℤ (c *ℤ e)) (b *ℤ (d *ℤ f)) (mul_pos (b *ℤ d) f bd r) (mul_pos b (d *ℤ f) p df)
    (ring6 int_ring (λ a b c d e f. a ⊗ c ⊗ e ⊗ (b ⊗ (d ⊗ f)) ⊜ a ⊗ (c ⊗ e) ⊗ (b ⊗ d ⊗ f)) refl a b c d e f)
    ∙ sym (ap (λ x. make a b *ℚ x) (mul-make c d e f q r) ∙ mul-make a b (c *ℤ e) (d *ℤ f) p df)

pub mul_assoc : (x y z : ℚ) → (x *ℚ y) *ℚ z ≡ x *ℚ (y *ℚ z)
mul_assoc = by_parts (λ x. (y z : ℚ) → (x *ℚ y) *ℚ z ≡ x *ℚ (y *ℚ z)) λ a b p. by_parts (λ y. (z : ℚ) → (make a b *ℚ y) *ℚ z ≡ make a b *ℚ (y *ℚ z)) λ c d q. by_parts (λ z. (make a b *ℚ make c d) *ℚ z ≡ make a b *ℚ (make c d *ℚ z)) λ e f r. mul_assoc_parts a b c d e f p q r

mul_add_parts : (a b c d e f : ℤ) → pos 0 <ℤ b → pos 0 <ℤ d → pos 0 <ℤ f → make a b *ℚ (make c d +ℚ make e f) ≡ make a b *ℚ make c d +ℚ make a b *ℚ make e f
mul_add_parts a b c d e f p q r =
    let bd = mul_pos b d p q in
    let bf = mul_pos b f p r in
    let df = mul_pos d f q r in
    ap (λ x. make a b *ℚ x) (add-make c d e f q r) ∙ mul-make a b (c *ℤ f +ℤ e *ℤ d) (d *ℤ f) p df
    ∙ make-same (a *ℤ (c *ℤ f +ℤ e *ℤ d)) (b *ℤ (d *ℤ f)) (a *ℤ c *ℤ (b *ℤ f) +ℤ a *ℤ e *ℤ (b *ℤ d)) (b *ℤ d *ℤ (b *ℤ f)) (mul_pos b (d *ℤ f) p df) (mul_pos (b *ℤ d) (b *ℤ f) bd bf)
    (ring6 int_ring (λ a b c d e f. a ⊗ (c ⊗ f ⊕ e ⊗ d) ⊗ (b ⊗ d ⊗ (b ⊗ f)) ⊜ (a ⊗ c ⊗ (b ⊗ f) ⊕ a ⊗ e ⊗ (b ⊗ d)) ⊗ (b ⊗ (d ⊗ f))) refl a b c d e f)
    ∙ sym (ap (λ x. x +ℚ make a b *ℚ make e f) (mul-make a b c d p q) ∙ ap (λ x. make (a *ℤ c) (b *ℤ d) +ℚ x) (mul-make a b e f p r) ∙ add-make (a *ℤ c) (b *ℤ d) (a *ℤ e) (b *ℤ f) bd bf)

pub mul_add : (x y z : ℚ) → x *ℚ (y +ℚ z) ≡ x *ℚ y +ℚ x *ℚ z
mul_add = by_parts (λ x. (y z : ℚ) → x *ℚ (y +ℚ z) ≡ x *ℚ y +ℚ x *ℚ z) λ a b p. by_parts (λ y. (z : ℚ) → make a b *ℚ (y +ℚ z) ≡ make a b *ℚ y +ℚ make a b *ℚ z) λ c d q. by_parts (λ z. make a b *ℚ (make c d +ℚ z) ≡ make a b *ℚ make c d +ℚ make a b *ℚ z) λ e f r. mul_add_parts a b c d e f p q r

pub one_above : pos 0 <ℤ pos 1
one_above = above_zero 0

pub zero_add : (x : ℚ) → whole (pos 0) +ℚ x ≡ x
unfolding whole
zero_add = by_parts (λ x. make (pos 0) (pos 1) +ℚ x ≡ x) λ a b p.
    add-make (pos 0) (pos 1) a b one_above p ∙ make-same (pos 0 *ℤ b +ℤ a *ℤ pos 1) (pos 1 *ℤ b) a b (mul_pos (pos 1) b one_above p) p
    (ring2 int_ring (λ a b. (con (pos 0) ⊗ b ⊕ a ⊗ con (pos 1)) ⊗ b ⊜ a ⊗ (con (pos 1) ⊗ b)) refl a b)

pub neg_add : (x : ℚ) → neg_ℚ x +ℚ x ≡ whole (pos 0)
unfolding whole
neg_add = by_parts (λ x. neg_ℚ x +ℚ x ≡ make (pos 0) (pos 1)) λ a b p.
    ap (λ x. x +ℚ make a b) (neg-make a b p) ∙ add-make (neg_ℤ a) b a b p p
    ∙ make-same (neg_ℤ a *ℤ b +ℤ a *ℤ b) (b *ℤ b) (pos 0) (pos 1) (mul_pos b b p p) one_above
    (ring3 int_ring (λ m a b. (m ⊗ b ⊕ a ⊗ b) ⊗ con (pos 1) ⊜ (m ⊕ a) ⊗ b) refl (neg_ℤ a) a b ∙ ap (λ x. x *ℤ b) (Z.neg_add a) ∙ Z.zero_mul b ∙ sym (Z.zero_mul (b *ℤ b)))

pub one_mul : (x : ℚ) → whole (pos 1) *ℚ x ≡ x
unfolding whole
one_mul = by_parts (λ x. make (pos 1) (pos 1) *ℚ x ≡ x) λ a b p.
    mul-make (pos 1) (pos 1) a b one_above p ∙ make-same (pos 1 *ℤ a) (pos 1 *ℤ b) a b (mul_pos (pos 1) b one_above p) p
    (ring2 int_ring (λ a b. (con (pos 1) ⊗ a) ⊗ b ⊜ a ⊗ (con (pos 1) ⊗ b)) refl a b)

pub whole-add : (m n : ℤ) → whole (m +ℤ n) ≡ whole m +ℚ whole n
unfolding whole
whole-add m n = sym (add-make m (pos 1) n (pos 1) one_above one_above ∙ make-same (m *ℤ pos 1 +ℤ n *ℤ pos 1) (pos 1) (m +ℤ n) (pos 1) one_above one_above
    (ring2 int_ring (λ m n. (m ⊗ con (pos 1) ⊕ n ⊗ con (pos 1)) ⊗ con (pos 1) ⊜ (m ⊕ n) ⊗ con (pos 1)) refl m n))

pub whole-mul : (m n : ℤ) → whole (m *ℤ n) ≡ whole m *ℚ whole n
unfolding whole
whole-mul m n = sym (mul-make m (pos 1) n (pos 1) one_above one_above)

abbrev pub rational_ring : CommRing ℚ
rational_ring = record { add = ◌+ℚ◌; mul = ◌*ℚ◌; neg = neg_ℚ; of_int = whole; add_comm = add_comm; add_assoc = add_assoc; zero_add = zero_add; neg_add = neg_add; mul_comm = mul_comm; mul_assoc = mul_assoc; one_mul = one_mul; mul_add = mul_add; of_add = whole-add; of_mul = whole-mul }

-- ---- order
-- a/b and n/d are one number, and c/f and m/e: what holds of one pair's cross products holds of the other's
cross_le : (a b c f n d m e : ℤ) → pos 0 <ℤ b → pos 0 <ℤ f → pos 0 <ℤ d → pos 0 <ℤ e → a *ℤ d ≡ n *ℤ b → c *ℤ e ≡ m *ℤ f → (a *ℤ f) ≤ℤ (c *ℤ b) → (n *ℤ e) ≤ℤ (m *ℤ d)
cross_le a b c f n d m e bp fp dp ep h j le =
    cancel_le (b *ℤ f) (n *ℤ e) (m *ℤ d) (mul_pos b f bp fp)
    (le8 int_ordered (λ a b c f n d m e. from_times (d ⊗ e) (a ⊗ f) (c ⊗ b) (from_same (con (negsuc 0) ⊗ f ⊗ e) (a ⊗ d) (n ⊗ b) (from_same (b ⊗ d) (c ⊗ e) (m ⊗ f) (so (b ⊗ f ⊗ (n ⊗ e)) (b ⊗ f ⊗ (m ⊗ d)))))) refl a b c f n d m e (let de = mul_pos d e dp ep in omega (arith, linear)) le h j)

pub le-make : (n d m e : ℤ) → pos 0 <ℤ d → pos 0 <ℤ e → (n *ℤ e) ≤ℤ (m *ℤ d) → make n d ≤ℚ make m e
le-make n d m e p q h =
    let x = make n d in
    let y = make m e in
    record { cross = cross_le n d m e x.num x.den y.num y.den p q (den_above x) (den_above y) (sym (make-is n d p)) (sym (make-is m e q)) h }

pub make-le : (n d m e : ℤ) → pos 0 <ℤ d → pos 0 <ℤ e → make n d ≤ℚ make m e → (n *ℤ e) ≤ℤ (m *ℤ d)
make-le n d m e p q h =
    let x = make n d in
    let y = make m e in
    cross_le x.num x.den y.num y.den n d m e (den_above x) (den_above y) p q (make-is n d p) (make-is m e q) h.cross

pub le_refl : (x : ℚ) → x ≤ℚ x
le_refl x = record { cross = ≤ℤ_refl (x.num *ℤ x.den) }

pub le_total : (x y : ℚ) → (x ≤ℚ y) ⊎ (y ≤ℚ x)
le_total x y = ⊎_elim (λ h. inl (record { cross = h })) (λ h. inr (record { cross = h })) (O.le_total (x.num *ℤ y.den) (y.num *ℤ x.den))

pub le_antisym : (x y : ℚ) → x ≤ℚ y → y ≤ℚ x → x ≡ y
le_antisym x y p q = same_from_cross x y (O.le_antisym (x.num *ℤ y.den) (y.num *ℤ x.den) p.cross q.cross)

pub le_trans : (x y z : ℚ) → x ≤ℚ y → y ≤ℚ z → x ≤ℚ z
le_trans x y z p q = record {
  cross =
      cancel_le y.den (x.num *ℤ z.den) (z.num *ℤ x.den) (den_above y)
      (le6 int_ordered (λ a b c d e f. from_times (f) (a ⊗ d) (c ⊗ b) (from_times (b) (c ⊗ f) (e ⊗ d) (so (d ⊗ (a ⊗ f)) (d ⊗ (e ⊗ b))))) refl x.num x.den y.num y.den z.num z.den (O.le_of_lt (pos 0) z.den (den_above z)) p.cross (O.le_of_lt (pos 0) x.den (den_above x)) q.cross);
}

add_le_parts : (a b c d e f : ℤ) → pos 0 <ℤ b → pos 0 <ℤ d → pos 0 <ℤ f → make c d ≤ℚ make e f → (make a b +ℚ make c d) ≤ℚ (make a b +ℚ make e f)
add_le_parts a b c d e f p q r h =
    let s = make-le c d e f q r h in
    rw (add-make a b c d p q, add-make a b e f p r)
    (le-make (a *ℤ d +ℤ c *ℤ b) (b *ℤ d) (a *ℤ f +ℤ e *ℤ b) (b *ℤ f) (mul_pos b d p q) (mul_pos b f p r)
    (le6 int_ordered (λ a b c d e f. from_times (b ⊗ b) (c ⊗ f) (e ⊗ d) (so ((a ⊗ d ⊕ c ⊗ b) ⊗ (b ⊗ f)) ((a ⊗ f ⊕ e ⊗ b) ⊗ (b ⊗ d)))) refl a b c d e f (O.square_nonneg b) s))

pub add_le : (x y z : ℚ) → y ≤ℚ z → (x +ℚ y) ≤ℚ (x +ℚ z)
add_le = by_parts (λ x. (y z : ℚ) → y ≤ℚ z → (x +ℚ y) ≤ℚ (x +ℚ z)) λ a b p. by_parts (λ y. (z : ℚ) → y ≤ℚ z → (make a b +ℚ y) ≤ℚ (make a b +ℚ z)) λ c d q. by_parts (λ z. make c d ≤ℚ z → (make a b +ℚ make c d) ≤ℚ (make a b +ℚ z)) λ e f r. add_le_parts a b c d e f p q r

pub nonneg-num : (x : ℚ) → whole (pos 0) ≤ℚ x → pos 0 ≤ℤ x.num
unfolding whole
nonneg-num x h = let c = make-le (pos 0) (pos 1) x.num x.den one_above (den_above x) (subst (λ y. make (pos 0) (pos 1) ≤ℚ y) (sym (make-parts x)) h) in omega (arith, ints)

pub num-nonneg : (n d : ℤ) → pos 0 <ℤ d → pos 0 ≤ℤ n → whole (pos 0) ≤ℚ make n d
unfolding whole
num-nonneg n d p h = le-make (pos 0) (pos 1) n d one_above p (omega (arith, ints))

pub mul_nonneg : (x y : ℚ) → whole (pos 0) ≤ℚ x → whole (pos 0) ≤ℚ y → whole (pos 0) ≤ℚ (x *ℚ y)
unfolding ◌*ℚ◌
mul_nonneg x y p q = num-nonneg (x.num *ℤ y.num) (x.den *ℤ y.den) (mul_pos x.den y.den (den_above x) (den_above y)) (O.mul_nonneg x.num y.num (nonneg-num x p) (nonneg-num y q))

abbrev pub rational_ordered : OrderedRing ℚ
rational_ordered = record { ring = rational_ring; le = ◌≤ℚ◌; le_refl = le_refl; le_trans = le_trans; le_antisym = le_antisym; le_total = le_total; add_le = add_le; mul_nonneg = mul_nonneg }

-- ---- division
inv_parts : (n d : ℤ) → pos 0 <ℤ d → n ≢ pos 0 → upside_down n d *ℚ make n d ≡ make (pos 1) (pos 1)
inv_parts (pos zero) d p ne = absurd (ne refl)
inv_parts (pos (suc i)) d p ne =
    let n = pos (suc i) in
    mul-make d n n d (above_zero i) p ∙ make-same (d *ℤ n) (n *ℤ d) (pos 1) (pos 1) (mul_pos n d (above_zero i) p) one_above
    (ring2 int_ring (λ n d. d ⊗ n ⊗ con (pos 1) ⊜ con (pos 1) ⊗ (n ⊗ d)) refl n d)
inv_parts (negsuc i) d p ne =
    let n = pos (suc i) in
    mul-make (neg_ℤ d) n (negsuc i) d (above_zero i) p ∙ make-same (neg_ℤ d *ℤ negsuc i) (n *ℤ d) (pos 1) (pos 1) (mul_pos n d (above_zero i) p) one_above
    (ap (λ x. x *ℤ pos 1) (neg_mul d (negsuc i) ∙ sym (Z.mul_neg d (negsuc i))) ∙ ring2 int_ring (λ n d. d ⊗ n ⊗ con (pos 1) ⊜ con (pos 1) ⊗ (n ⊗ d)) refl n d)

pub inv-mul : (x : ℚ) → x ≢ whole (pos 0) → inv_ℚ x *ℚ x ≡ whole (pos 1)
unfolding inv_ℚ whole
inv-mul x ne =
    let n0 : x.num ≢ pos 0 = λ e. ne (sym (make-parts x) ∙ make-same x.num x.den (pos 0) (pos 1) (den_above x) one_above (ap (λ n. n *ℤ pos 1) e ∙ sym (Z.zero_mul x.den))) in
    ap (λ y. inv_ℚ x *ℚ y) (sym (make-parts x)) ∙ inv_parts x.num x.den (den_above x) n0

-- lowest terms are what `make` makes
pub make-lowest : (n d : ℤ) → IsLowest n d → ((make n d).num ≡ n) × ((make n d).den ≡ d)
make-lowest n d h = IsLowest-unique (make n d).num (make n d).den n d (make n d).lowest h (make-is n d h.0)

pub lowest_back : {X : Type 0} (g : ℤ → ℤ → X) (n d : ℤ) → IsLowest n d → g (make n d).num (make n d).den ≡ g n d
lowest_back g n d h = let r = make-lowest n d h in ap (λ x. g x (make n d).den) r.0 ∙ ap (g n) r.1

pub zero_is : make (pos 0) (pos 1) ≡ whole (pos 0)
unfolding whole
zero_is = refl

pub parts_of : (x : ℚ) (a b : ℤ) → make a b ≡ x → IsLowest a b → (x.num ≡ a) × (x.den ≡ b)
parts_of x a b e h = let r = make-lowest a b h in (ap (λ y. y.num) (sym e) ∙ r.0, ap (λ y. y.den) (sym e) ∙ r.1)

pub whole-le-make : (q n d : ℤ) → pos 0 <ℤ d → (q *ℤ d) ≤ℤ n → whole q ≤ℚ make n d
unfolding whole
whole-le-make q n d p h = le-make q (pos 1) n d one_above p (omega (arith, ints))

pub make-above_whole : (q n d : ℤ) → pos 0 <ℤ d → n <ℤ (q *ℤ d) → ¬ (whole q ≤ℚ make n d)
unfolding whole
make-above_whole q n d p h le = let e = make-le q (pos 1) n d one_above p le in omega (arith, ints)
