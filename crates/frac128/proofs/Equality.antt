-- Equal fractions have equal parts.
use Rattle.std.proofs.Common.{◌≡◌, ◌≢◌, ℤ, ◌∙◌, sym, ap, Bool, true, false}
use Rattle.std.specs.Ordering.{eq_by_cmp}
use Rattle.algebra.specs.Fractions.{IsLowest}
use Rattle.rational.specs.Rational.{ℚ, make, cmp_ℚ}
use Rattle.rational.proofs.Orders.{eq-other, eq-same}
use Rattle.rational.proofs.Rationals.{parts_of}

-- a test of the denominators, where the numerators are equal
pub same_den : (x y : ℚ) (a b m d : ℤ) → make a b ≡ x → make m d ≡ y → IsLowest a b → IsLowest m d → a ≡ m → (t : Bool) → (t ≡ true → b ≡ d) → (t ≡ false → b ≢ d) → t ≡ eq_by_cmp cmp_ℚ x y
same_den x y a b m d ex ey lx ly e true same apart = sym (eq-same x y (sym ex ∙ ap (λ n. make n b) e ∙ ap (make m) (same (λ i. true)) ∙ ey))
same_den x y a b m d ex ey lx ly e false same apart = sym (eq-other x y (λ h. apart (λ i. false) (sym (parts_of x a b ex lx).1 ∙ ap (λ (z : ℚ). z.den) h ∙ (parts_of y m d ey ly).1)))

-- other numerators
pub other_num : (x y : ℚ) (a b m d : ℤ) → make a b ≡ x → make m d ≡ y → IsLowest a b → IsLowest m d → a ≢ m → eq_by_cmp cmp_ℚ x y ≡ false
other_num x y a b m d ex ey lx ly ne = eq-other x y (λ h. ne (sym (parts_of x a b ex lx).0 ∙ ap (λ (z : ℚ). z.num) h ∙ (parts_of y m d ey ly).0))
