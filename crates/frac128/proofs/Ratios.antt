-- Quotients that aren't in lowest terms.
use Rattle.std.proofs.Common.{◌≡◌, ◌<◌, ℤ, pos, ◌<ℤ◌, unsigned_abs, arith, refl, sym, subst, ◌∙◌, ◌*ℤ◌}
use Rattle.std.specs.Prelude.{int_div}
use Rattle.std.proofs.lemmas.Int.{ints}
use native.Mathlib.Nat.{pos_of_dvd_of_pos}
use Rattle.algebra.proofs.Divisors.{euclid}
use Rattle.algebra.proofs.Lowest.{divided}
use Rattle.rational.specs.Rational.{ℚ, make, ◌*ℚ◌}
use Rattle.rational.proofs.Rationals.{make-same, mul-make}
use Rattle.algebra.proofs.Order.{mul_pos}
use Rattle.frac128.specs.Limits.{Fits, IsSmall}
use Rattle.frac128.proofs.Multiples.{parts_fit}
use Rattle.frac128.proofs.Small.{small_quotient}

-- in lowest terms the parts are no larger
pub small_fits : (n d : ℤ) → pos 0 <ℤ d → IsSmall n → IsSmall d → Fits (make n d)
small_fits n d above sn sd =
    let g = euclid (unsigned_abs n) (unsigned_abs d) in
    let some : 0 < g.0 = pos_of_dvd_of_pos g.1.1 (let z : 0 < unsigned_abs d = omega (arith, ints) in z) in
    let shared : pos 0 <ℤ pos g.0 = omega (arith, ints) in
    let low = divided n d (pos g.0) above shared g.1 in
    parts_fit (int_div n (pos g.0)) (int_div d (pos g.0)) (make n d) low.0 (make-same (int_div n (pos g.0)) (int_div d (pos g.0)) n d low.0.0 above low.1) (small_quotient n (pos g.0) (int_div n (pos g.0)) shared refl sn) (small_quotient d (pos g.0) (int_div d (pos g.0)) shared refl sd)

-- a product whose parts are products, where these are small
pub record IsProduct (p q : ℤ) (x : ℚ) : Type 0 where
  pub above : pos 0 <ℤ q
  pub fits : Fits x
  pub value : make p q ≡ x

pub product_fits : (a b m d p q : ℤ) (x y z : ℚ) → pos 0 <ℤ b → pos 0 <ℤ d → make a b ≡ x → make m d ≡ y → x *ℚ y ≡ z → IsSmall (a *ℤ m) × (p ≡ a *ℤ m) → IsSmall (b *ℤ d) × (q ≡ b *ℤ d) → IsProduct p q z
product_fits a b m d p q x y z pb pd vx vy vz num den =
    let above : pos 0 <ℤ (b *ℤ d) = mul_pos b d pb pd in
    let value : make (a *ℤ m) (b *ℤ d) ≡ z = sym (mul-make a b m d pb pd) ∙ rw (vx, vy) vz in
    record {
      above = subst (λ k. pos 0 <ℤ k) (sym den.1) above;
      fits = subst Fits value (small_fits (a *ℤ m) (b *ℤ d) above num.0 den.0);
      value = rw (num.1, den.1) value;
    }
