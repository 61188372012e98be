-- Choices, signs of rational numbers, and their sums.
use Rattle.std.proofs.Common.{◌≡◌, ◌≢◌, ◌⊎◌, ◌+◌, ◌∙◌, ℕ, suc, refl, sym, ap, subst, arith, inl, inr}
use Rattle.std.proofs.lemmas.Int.{ints}
use Rattle.std.specs.Prelude.{pos, negsuc, if◌then◌else◌, ◌==◌}
use Rattle.std.specs.declared.cmp.Ordering.{Ordering}
use Rattle.std.specs.declared.cmp.Ordering.TheVariants.{Less, Equal, Greater}
use Rattle.rational.specs.Rational.{ℚ, whole, inv_ℚ, ◌+ℚ◌, ◌*ℚ◌, ◌≤ℚ◌, cmp_ℚ, IsOrder}
use Rattle.rational.proofs.Rationals as Q
use Rattle.rational.proofs.Rationals.{rational_ring, rational_ordered, inv-mul}
use Rattle.rational.proofs.Facts.{cancel_le, lt-le, whole-le}
use Rattle.rational.proofs.Orders.{order_of}
use Rattle.frac128.specs.Limits.{divided_ℚ}
use Rattle.algebra.proofs.Rings.{con, ◌⊗◌, ◌⊜◌, ring1}
use Rattle.algebra.proofs.Claims.{le2, same3, so, from, from_times}
use Rattle.algebra.proofs.Sums.{sum-first, sum-same}
use Rattle.tableau.specs.Program.{sum_ℚ, zero_ℚ}
use Rattle.tableau.specs.Run.{IsNegative, IsPositive}

-- ---- choices
pub if_same : {A : Type 0} (a b : ℕ) (x y : A) → a ≡ b → (if a == b then x else y) ≡ x
if_same a b x y e = grind (arith, e)

pub if_other : {A : Type 0} (a b : ℕ) (x y : A) → a ≢ b → (if a == b then x else y) ≡ y
if_other a b x y e = grind (arith, e)

-- ---- signs
le_or_not : (x y : ℚ) → (x ≤ℚ y) ⊎ (x ≤ℚ y → ⊥)
le_or_not x y = by (cmp_ℚ x y) (order_of x y)
  where
    by : (o : Ordering) → IsOrder x y o → (x ≤ℚ y) ⊎ (x ≤ℚ y → ⊥)
    by Less is = inl (lt-le x y is)
    by Equal is = inl (subst (λ z. x ≤ℚ z) is (Q.le_refl x))
    by Greater is = inr is

pub is_negative : (x : ℚ) → (zero_ℚ ≤ℚ x) ⊎ IsNegative x
is_negative x = le_or_not zero_ℚ x

pub is_positive : (x : ℚ) → (x ≤ℚ zero_ℚ) ⊎ IsPositive x
is_positive x = le_or_not x zero_ℚ

pub negative_le : (x : ℚ) → IsNegative x → x ≤ℚ zero_ℚ
negative_le x negative = lt-le x zero_ℚ negative

pub positive_le : (x : ℚ) → IsPositive x → zero_ℚ ≤ℚ x
positive_le x positive = lt-le zero_ℚ x positive

pub negative_some : (x : ℚ) → IsNegative x → x ≢ zero_ℚ
negative_some x negative is = negative (subst (λ y. zero_ℚ ≤ℚ y) (sym is) (Q.le_refl zero_ℚ))

pub positive_some : (x : ℚ) → IsPositive x → x ≢ zero_ℚ
positive_some x positive is = positive (subst (λ y. y ≤ℚ zero_ℚ) (sym is) (Q.le_refl zero_ℚ))

-- ---- products
pub times_zero : (a x : ℚ) → x ≡ zero_ℚ → a *ℚ x ≡ zero_ℚ
times_zero a x none = ap (λ y. a *ℚ y) none ∙ ring1 rational_ring (λ a. a ⊗ con (pos 0) ⊜ con (pos 0)) refl a

pub times_one : (a x : ℚ) → x ≡ whole (pos 1) → a *ℚ x ≡ a
times_one a x one = ap (λ y. a *ℚ y) one ∙ ring1 rational_ring (λ a. a ⊗ con (pos 1) ⊜ a) refl a

pub low_high : (a b : ℚ) → a ≤ℚ zero_ℚ → zero_ℚ ≤ℚ b → (a *ℚ b) ≤ℚ zero_ℚ
low_high a b low high = le2 rational_ordered (λ a b. from_times b a (con (pos 0)) (so (a ⊗ b) (con (pos 0)))) refl a b high low

pub high_low : (a b : ℚ) → zero_ℚ ≤ℚ a → b ≤ℚ zero_ℚ → (a *ℚ b) ≤ℚ zero_ℚ
high_low a b high low = le2 rational_ordered (λ a b. from_times a b (con (pos 0)) (so (a ⊗ b) (con (pos 0)))) refl a b high low

pub cancel_zero : (a c : ℚ) → c ≢ zero_ℚ → a *ℚ c ≡ zero_ℚ → a ≡ zero_ℚ
cancel_zero a c some none = same3 rational_ring (λ a c i. from i (a ⊗ c) (con (pos 0)) (from (con (negsuc 0) ⊗ a) (i ⊗ c) (con (pos 1)) (so a (con (pos 0))))) refl a c (inv_ℚ c) none (inv-mul c some)

-- ---- quotients
pub inverse_le : (x : ℚ) → IsPositive x → zero_ℚ ≤ℚ inv_ℚ x
inverse_le x positive =
    let one : x *ℚ inv_ℚ x ≡ whole (pos 1) = Q.mul_comm x (inv_ℚ x) ∙ inv-mul x (positive_some x positive) in
    cancel_le x zero_ℚ (inv_ℚ x) positive (subst (λ y. (x *ℚ zero_ℚ) ≤ℚ y) (sym one) (subst (λ y. y ≤ℚ whole (pos 1)) (sym (times_zero x zero_ℚ refl)) (whole-le (pos 0) (pos 1) (omega (arith, ints)))))

pub zero_divided : (a b : ℚ) → a ≡ zero_ℚ → divided_ℚ a b ≡ zero_ℚ
zero_divided a b none = ap (λ x. divided_ℚ x b) none ∙ ring1 rational_ring (λ b. con (pos 0) ⊗ b ⊜ con (pos 0)) refl (inv_ℚ b)

pub undivided : (a b : ℚ) → b ≢ zero_ℚ → divided_ℚ a b ≡ zero_ℚ → a ≡ zero_ℚ
undivided a b some none = same3 rational_ring (λ a i b. from b (a ⊗ i) (con (pos 0)) (from (con (negsuc 0) ⊗ a) (i ⊗ b) (con (pos 1)) (so a (con (pos 0))))) refl a (inv_ℚ b) b none (inv-mul b some)

-- ---- a sum over one place more, from the front
pub sum_front : (n : ℕ) (f : ℕ → ℚ) → sum_ℚ (n + 1) f ≡ f 0 +ℚ sum_ℚ n (λ i. f (i + 1))
sum_front n f =
    let e : n + 1 ≡ suc n = omega arith in
    ap (λ m. sum_ℚ m f) e ∙ sum-first rational_ring n f ∙ ap (λ s. f 0 +ℚ s) (sum-same rational_ring n (λ i. f (suc i)) (λ i. f (i + 1)) (λ i less. ap f (one_more i)))
  where
    one_more : (i : ℕ) → suc i ≡ i + 1
    one_more i = omega arith
