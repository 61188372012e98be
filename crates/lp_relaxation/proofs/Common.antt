-- Finitely many fractions have a common denominator.
use Rattle.std.proofs.Common.{◌≡◌, ◌≢◌, ◌≤◌, ◌<◌, ◌*◌, ◌-◌, ◌∙◌, ⊎_elim, ℕ, zero, suc, refl, sym, ap, arith}
use Rattle.std.specs.Prelude.{if◌then◌else◌, ◌==◌, ℤ, pos, negsuc, ◌*ℤ◌, ◌≤ℤ◌, ◌<ℤ◌}
use Rattle.std.proofs.lemmas.Bool.{cases_eq}
use Rattle.std.proofs.lemmas.Int.{ints}
use Rattle.std.proofs.Math.Nat.{mul-le-mul_right}
use Rattle.algebra.proofs.Order.{mul_pos}
use Rattle.algebra.proofs.Rings.{int_ring, con, ◌⊗◌, ◌⊜◌, ring2, ring3}
use Rattle.rational.specs.Rational.{ℚ, make, whole, ◌*ℚ◌, ◌≤ℚ◌}
use Rattle.rational.proofs.Rationals.{den_above, make-parts, make-same, mul-make, nonneg-num, one_above, rational_ring, whole-mul}
use Rattle.lot_sizing.specs.Problem.{Problem}
use Rattle.lin_rows.specs.Columns.{number_of}
use Rattle.lin_rows.specs.Rows.{LinPoint}
use Rattle.tableau.specs.Program.{zero_ℚ}
use Rattle.lp_relaxation.specs.Says.{HasFractions}
use Rattle.lp_relaxation.proofs.Entries.{AreAmong}

pub natural : (z : ℤ) → pos 0 ≤ℤ z → (k : ℕ) × (pos k ≡ z)
natural (pos k) low = (k, refl)
natural (negsuc k) low = absurd (omega (arith, ints, low))

-- a fraction times its denominator is its numerator
times_den : (n d : ℤ) → pos 0 <ℤ d → whole d *ℚ make n d ≡ whole n
unfolding whole
times_den n d above =
    mul-make d (pos 1) n d one_above above
    ∙ make-same (d *ℤ n) (pos 1 *ℤ d) n (pos 1) (mul_pos (pos 1) d one_above above) one_above (ring2 int_ring (λ n d. d ⊗ n ⊗ con (pos 1) ⊜ n ⊗ (con (pos 1) ⊗ d)) refl n d)

pub num-is : (x : ℚ) → whole x.den *ℚ x ≡ whole x.num
num-is x = ap (λ y. whole x.den *ℚ y) (sym (make-parts x)) ∙ times_den x.num x.den (den_above x)

-- numerators over a denominator
pub record AreOver (n : ℕ) (x : ℕ → ℚ) (den : ℕ) (num : ℕ → ℕ) : Type 0 where
  pub positive : 1 ≤ den
  pub each : (c : ℕ) → c < n → whole (pos (num c)) ≡ whole (pos den) *ℚ x c

if_same : (a b x y : ℕ) → a ≡ b → (if a == b then x else y) ≡ x
if_same a b x y e = grind (arith, e)

if_other : (a b x y : ℕ) → a ≢ b → (if a == b then x else y) ≡ y
if_other a b x y e = grind (arith, e)

-- one more
more_over : (n : ℕ) (x : ℕ → ℚ) (den e a : ℕ) (num : ℕ → ℕ) → AreOver n x den num → 1 ≤ e → whole (pos e) *ℚ x n ≡ whole (pos a) → AreOver (suc n) x (den * e) (λ c. if c == n then den * a else num c * e)
more_over n x den e a num over some is = record {
  positive = omega (arith, mul-le-mul_right e over.positive, some);
  each = λ c less. ⊎_elim
      (λ here.
      ap (λ k. whole (pos k)) (if_same c n (den * a) (num c * e) here)
      ∙ whole-mul (pos den) (pos a) ∙ ap (λ y. whole (pos den) *ℚ y) (sym is)
      ∙ ring3 rational_ring (λ d e x. d ⊗ (e ⊗ x) ⊜ d ⊗ e ⊗ x) refl (whole (pos den)) (whole (pos e)) (x n)
      ∙ ap (λ y. y *ℚ x n) (sym (whole-mul (pos den) (pos e))) ∙ ap (λ k. whole (pos (den * e)) *ℚ x k) (sym here))
      (λ there.
      ap (λ k. whole (pos k)) (if_other c n (den * a) (num c * e) there)
      ∙ whole-mul (pos (num c)) (pos e) ∙ ap (λ y. y *ℚ whole (pos e)) (over.each c (omega (arith, less, there)))
      ∙ ring3 rational_ring (λ d e x. d ⊗ x ⊗ e ⊜ d ⊗ e ⊗ x) refl (whole (pos den)) (whole (pos e)) (x c)
      ∙ ap (λ y. y *ℚ x c) (sym (whole-mul (pos den) (pos e))))
      (cases_eq c n);
}

pub common : (n : ℕ) (x : ℕ → ℚ) → ((c : ℕ) → c < n → zero_ℚ ≤ℚ x c) → (den : ℕ) × ((num : ℕ → ℕ) × AreOver n x den num)
common zero x low = (1, ((λ c. 0), record { positive = omega arith; each = λ c less. absurd (omega (arith, less)) }))
common (suc n) x low =
    let before = common n x (λ c less. low c (omega (arith, less))) in
    let e = natural (x n).den (let above = den_above (x n) in omega (arith, ints, above)) in
    let a = natural (x n).num (nonneg-num (x n) (low n (omega arith))) in
    let some : 1 ≤ e.0 = let above = den_above (x n) in omega (arith, ints, above, e.1) in
    let is : whole (pos e.0) *ℚ x n ≡ whole (pos a.0) = ap (λ z. whole z *ℚ x n) e.1 ∙ num-is (x n) ∙ ap whole (sym a.1) in
    (before.0 * e.0, ((λ c. if c == n then before.0 * a.0 else before.1.0 c * e.0), more_over n x before.0 e.0 a.0 before.1.0 before.1.1 some is))

-- so fractions of at least 0 are those of a point
pub has_point : (m : Problem) (n : ℕ) → AreAmong m n → (x : ℕ → ℚ) → ((c : ℕ) → c < n → zero_ℚ ≤ℚ x c) → (q : LinPoint) × HasFractions m x q
has_point m n among x low =
    let all = common n x low in
    (record { values = λ c. all.1.0 (number_of m c - 1); den = all.0; positive = all.1.1.positive }, λ c is. all.1.1.each (number_of m c - 1) (let place = among c is in omega (arith, place.0, place.1)))
