-- Products in lowest terms, and which numbers fit.
use Rattle.std.proofs.Common.{◌≡◌, ◌*◌, ℕ, ℤ, pos, ◌*ℤ◌, ◌<ℤ◌, ◌∙◌, unsigned_abs, sym, ap, subst, refl, arith}
use Rattle.std.specs.Prelude.{int_div}
use Rattle.std.specs.Int.{IsGcd}
use Rattle.std.proofs.lemmas.Int.{ints, unsigned_abs-mul}
use Rattle.std.proofs.lemmas.Nat.Gcd.{IsGcd-swap}
use Prim.Native.Nat.{◌∣◌}
use native.Mathlib.Nat.{dvd-mul_right, dvd_trans, one-dvd, one-mul}
use Rattle.algebra.specs.Fractions.{IsLowest}
use Rattle.algebra.proofs.Divisors.{IsGcd-times}
use Rattle.algebra.proofs.Lowest.{divided, zero_lowest}
use Rattle.algebra.proofs.Order.{mul_pos}
use Rattle.algebra.proofs.Rings.{int_ring, ring6, ◌⊗◌, ◌⊜◌}
use Rattle.rational.specs.Rational.{ℚ, make, ◌*ℚ◌, whole}
use Rattle.rational.proofs.Rationals.{make-lowest, make-same, mul-make, zero_is}
use Rattle.frac128.specs.Limits.{Fits, IsSmall}
use Rattle.frac128.proofs.Shared.{exact}

-- what shares no factor with two numbers shares none with their product
coprime-mul : (a b c : ℕ) → IsGcd a b 1 → IsGcd a c 1 → IsGcd a (b * c) 1
coprime-mul a b c h k = (
  one-dvd a,
  one-dvd (b * c),
  λ e p q. k.2 e p (subst (λ x. e ∣ x) (one-mul c) ((IsGcd-times a b c 1 h).2 e (dvd_trans e p (dvd-mul_right a c)) q)),
)

-- parts of numbers without a common factor have none
coprime-parts : (a b x y : ℕ) → x ∣ a → y ∣ b → IsGcd a b 1 → IsGcd x y 1
coprime-parts a b x y p q h = (one-dvd x, one-dvd y, λ e u v. h.2 e (dvd_trans e u p) (dvd_trans e v q))

coprime-products : (a b c d : ℕ) → IsGcd a b 1 → IsGcd a d 1 → IsGcd c b 1 → IsGcd c d 1 → IsGcd (a * c) (b * d) 1
coprime-products a b c d ab ad cb cd = IsGcd-swap (b * d) (a * c) 1 (coprime-mul (b * d) a c (IsGcd-swap a (b * d) 1 (coprime-mul a b d ab ad)) (IsGcd-swap c (b * d) 1 (coprime-mul c b d cb cd)))

part_divides : (q g n : ℤ) → q *ℤ g ≡ n → unsigned_abs q ∣ unsigned_abs n
part_divides q g n e = subst (λ x. unsigned_abs q ∣ x) (sym (unsigned_abs-mul q g) ∙ ap unsigned_abs e) (dvd-mul_right (unsigned_abs q) (unsigned_abs g))

product_value : (p q r s g h : ℤ) → pos 0 <ℤ (q *ℤ h) → pos 0 <ℤ (s *ℤ g) → pos 0 <ℤ (q *ℤ s) → make (p *ℤ r) (q *ℤ s) ≡ make (p *ℤ g) (q *ℤ h) *ℚ make (r *ℤ h) (s *ℤ g)
product_value p q r s g h pb pd pe =
    make-same (p *ℤ r) (q *ℤ s) (p *ℤ g *ℤ (r *ℤ h)) (q *ℤ h *ℤ (s *ℤ g)) pe (mul_pos (q *ℤ h) (s *ℤ g) pb pd)
    (ring6 int_ring (λ p q r s g h. p ⊗ r ⊗ (q ⊗ h ⊗ (s ⊗ g)) ⊜ p ⊗ g ⊗ (r ⊗ h) ⊗ (q ⊗ s)) refl p q r s g h)
    ∙ sym (mul-make (p *ℤ g) (q *ℤ h) (r *ℤ h) (s *ℤ g) pb pd)

-- a/b times c/d, where g is what a and d share, and h what c and b share
pub product_of : (a b c d g h p q r s : ℤ) → IsLowest a b → IsLowest c d → pos 0 <ℤ g → IsGcd (unsigned_abs a) (unsigned_abs d) (unsigned_abs g) → pos 0 <ℤ h → IsGcd (unsigned_abs c) (unsigned_abs b) (unsigned_abs h)
    → p ≡ int_div a g → r ≡ int_div c h → q ≡ int_div b h → s ≡ int_div d g
    → IsLowest (p *ℤ r) (q *ℤ s) × (make (p *ℤ r) (q *ℤ s) ≡ make a b *ℚ make c d)
product_of a b c d g h p q r s x y pg sg ph sh ep er eq es =
    let ad : IsLowest p s = rw (ep, es) (divided a d g y.0 pg sg).0 in
    let cb : IsLowest r q = rw (er, eq) (divided c b h x.0 ph sh).0 in
    let ea : p *ℤ g ≡ a = rw ep (exact a g pg sg.0) in
    let ed : s *ℤ g ≡ d = rw es (exact d g pg sg.1) in
    let ec : r *ℤ h ≡ c = rw er (exact c h ph sh.0) in
    let eb : q *ℤ h ≡ b = rw eq (exact b h ph sh.1) in
    let ab = coprime-parts (unsigned_abs a) (unsigned_abs b) (unsigned_abs p) (unsigned_abs q) (part_divides p g a ea) (part_divides q h b eb) x.1 in
    let cd = coprime-parts (unsigned_abs c) (unsigned_abs d) (unsigned_abs r) (unsigned_abs s) (part_divides r h c ec) (part_divides s g d ed) y.1 in
    let above = mul_pos q s cb.0 ad.0 in (
      (above, rw (unsigned_abs-mul p r, unsigned_abs-mul q s) (coprime-products (unsigned_abs p) (unsigned_abs q) (unsigned_abs r) (unsigned_abs s) ab ad.1 cb.1 cd)),
      product_value p q r s g h (subst (λ z. pos 0 <ℤ z) (sym eb) x.0) (subst (λ z. pos 0 <ℤ z) (sym ed) y.0) above ∙ rw (ea, eb, ec, ed) refl,
    )

-- a number fits exactly where its parts in lowest terms do
pub fits_parts : (n d : ℤ) (x : ℚ) → IsLowest n d → make n d ≡ x → Fits x → IsSmall n × IsSmall d
fits_parts n d x low is fits =
    let parts = make-lowest n d low in
    let f : Fits (make n d) = subst Fits (sym is) fits in
    (subst IsSmall parts.0 f.num, subst IsSmall parts.1 f.den)

pub parts_fit : (n d : ℤ) (x : ℚ) → IsLowest n d → make n d ≡ x → IsSmall n → IsSmall d → Fits x
parts_fit n d x low is sn sd =
    let parts = make-lowest n d low in
    subst Fits is record { num = subst IsSmall (sym parts.0) sn; den = subst IsSmall (sym parts.1) sd }

-- ---- zero
pub zero_from_num : (d : ℤ) → pos 0 <ℤ d → make (pos 0) d ≡ whole (pos 0)
zero_from_num d p = make-same (pos 0) d (pos 0) (pos 1) p (omega (arith, ints)) (omega (arith, ints)) ∙ zero_is

pub num_from_zero : (n d : ℤ) → IsLowest n d → make n d ≡ whole (pos 0) → n ≡ pos 0
num_from_zero n d low e =
    let is : make n d ≡ make (pos 0) (pos 1) = e ∙ sym zero_is in
    sym (make-lowest n d low).0 ∙ ap (λ (x : ℚ). x.num) is ∙ (make-lowest (pos 0) (pos 1) zero_lowest).0
