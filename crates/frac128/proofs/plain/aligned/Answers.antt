use Rattle.std.proofs.Common.{to_z, rules, ◌≡◌, pos, ◌*ℤ◌, ◌∙◌, unsigned_abs, sym, ap, subst, arith, FitsSigned}
use Rattle.std.specs.Prelude.{int_div}
use Rattle.std.specs.Int.{IsGcd, w128}
use Rattle.std.proofs.lemmas.Int.{ints, to_z-of_z}
use Rattle.algebra.proofs.Integers as Z
use Rattle.algebra.proofs.Lowest.{abs_pos}
use Rattle.frac128.specs.Limits.{AlignFits, IsSmall, gcd_of, own_part}
use Rattle.frac128.proofs.Shared.{factor_of, gcd_is, own_same, part_of, same_gcd}
use Rattle.frac128.proofs.plain.aligned.Goals as goal

pub returns-then-b-d : goal.returns-then-b-d
returns-then-b-d c =
    let fa = c.ranges.a in
    let fb = c.ranges.b in
    let fc = c.ranges.c in
    let fd = c.ranges.d in
    let e : c.args.b ≡ c.args.d = simp to_z-of_z at (ap (to_z w128) c.if-b-d.true) in
    let pb = c.requires.b_positive in
    let one : own_part c.args.d c.args.b ≡ pos 1 = own_same c.args.d c.args.b c.requires.d_positive (sym e) in
    let two : own_part c.args.b c.args.d ≡ pos 1 = own_same c.args.b c.args.d pb e in
    let left : c.args.a *ℤ own_part c.args.d c.args.b ≡ c.args.a = ap (λ q. c.args.a *ℤ q) one ∙ Z.mul_one c.args.a in
    let right : c.args.c *ℤ own_part c.args.b c.args.d ≡ c.args.c = ap (λ q. c.args.c *ℤ q) two ∙ Z.mul_one c.args.c in
    let den : c.args.b *ℤ own_part c.args.d c.args.b ≡ c.args.b = ap (λ q. c.args.b *ℤ q) one ∙ Z.mul_one c.args.b in
    let shared : c.args.b ≡ pos (gcd_of (unsigned_abs c.args.b) (unsigned_abs c.args.d)) = sym (abs_pos c.args.b pb) ∙ ap pos (sym (gcd_is (unsigned_abs c.args.b) (unsigned_abs c.args.d) (unsigned_abs c.args.b) (subst (λ z. IsGcd (unsigned_abs c.args.b) (unsigned_abs z) (unsigned_abs c.args.b)) e (same_gcd c.args.b)))) in
    let small : IsSmall c.args.b = omega (arith, ints) in (
      record { left = subst IsSmall (sym left) c.requires.a_small; right = subst IsSmall (sym right) c.requires.c_small; den = subst IsSmall (sym den) small },
      simp to_z-of_z (record { left = sym left; right = sym right; den = sym den; shared = shared }),
    )

pub returns-in_err-left : goal.returns-in_err-left
returns-in_err-left c =
    let fa = c.ranges.a in
    let fb = c.ranges.b in
    let fd = c.ranges.d in
    let fg : FitsSigned w128 c.common-shared.result = search rules in
    let fq : FitsSigned w128 c.quotient-factor.result = search rules in
    let h = simp to_z-of_z at c.common-shared.ensures.is in
    let q : c.quotient-factor.result ≡ int_div c.args.d c.common-shared.result = simp to_z-of_z at c.quotient-factor.ensures in
    let is = factor_of c.args.b c.args.d c.common-shared.result c.quotient-factor.result c.common-shared.ensures.positive h q in
    let n : ¬ (IsSmall (c.args.a *ℤ c.quotient-factor.result)) = simp to_z-of_z at c.in_err-left.ensures in
    rw c.from_residual.ensures (λ (fits : AlignFits c.args.a c.args.b c.args.c c.args.d). n (subst (λ z. IsSmall (c.args.a *ℤ z)) (sym is) fits.left))

pub returns-in_err-right : goal.returns-in_err-right
returns-in_err-right c =
    let fb = c.ranges.b in
    let fc = c.ranges.c in
    let fd = c.ranges.d in
    let fg : FitsSigned w128 c.common-shared.result = search rules in
    let fq : FitsSigned w128 c.quotient.result = search rules in
    let h = simp to_z-of_z at c.common-shared.ensures.is in
    let q : c.quotient.result ≡ int_div c.args.b c.common-shared.result = simp to_z-of_z at c.quotient.ensures in
    let is = part_of c.args.b c.args.d c.common-shared.result c.quotient.result c.common-shared.ensures.positive h q in
    let n : ¬ (IsSmall (c.args.c *ℤ c.quotient.result)) = simp to_z-of_z at c.in_err-right.ensures in
    rw c.from_residual-in_err-right.ensures (λ (fits : AlignFits c.args.a c.args.b c.args.c c.args.d). n (subst (λ z. IsSmall (c.args.c *ℤ z)) (sym is) fits.right))

pub returns-in_err-den : goal.returns-in_err-den
returns-in_err-den c =
    let fb = c.ranges.b in
    let fd = c.ranges.d in
    let fg : FitsSigned w128 c.common-shared.result = search rules in
    let fq : FitsSigned w128 c.quotient-factor.result = search rules in
    let h = simp to_z-of_z at c.common-shared.ensures.is in
    let q : c.quotient-factor.result ≡ int_div c.args.d c.common-shared.result = simp to_z-of_z at c.quotient-factor.ensures in
    let is = factor_of c.args.b c.args.d c.common-shared.result c.quotient-factor.result c.common-shared.ensures.positive h q in
    let n : ¬ (IsSmall (c.args.b *ℤ c.quotient-factor.result)) = simp to_z-of_z at c.in_err-den.ensures in
    rw c.from_residual-in_err-den.ensures (λ (fits : AlignFits c.args.a c.args.b c.args.c c.args.d). n (subst (λ z. IsSmall (c.args.b *ℤ z)) (sym is) fits.den))

pub returns : goal.returns
returns c =
    let fa = c.ranges.a in
    let fb = c.ranges.b in
    let fc = c.ranges.c in
    let fd = c.ranges.d in
    let fg : FitsSigned w128 c.common-shared.result = search rules in
    let fq : FitsSigned w128 c.quotient-factor.result = search rules in
    let fp : FitsSigned w128 c.quotient.result = search rules in
    let fl : FitsSigned w128 c.in_ok-left.left = search rules in
    let fr : FitsSigned w128 c.in_ok-right.right = search rules in
    let fe : FitsSigned w128 c.in_ok-den.den = search rules in
    let h = simp to_z-of_z at c.common-shared.ensures.is in
    let q : c.quotient-factor.result ≡ int_div c.args.d c.common-shared.result = simp to_z-of_z at c.quotient-factor.ensures in
    let p : c.quotient.result ≡ int_div c.args.b c.common-shared.result = simp to_z-of_z at c.quotient.ensures in
    let q_is = factor_of c.args.b c.args.d c.common-shared.result c.quotient-factor.result c.common-shared.ensures.positive h q in
    let p_is = part_of c.args.b c.args.d c.common-shared.result c.quotient.result c.common-shared.ensures.positive h p in
    let left : IsSmall (c.args.a *ℤ c.quotient-factor.result) × (c.in_ok-left.left ≡ c.args.a *ℤ c.quotient-factor.result) = simp to_z-of_z at c.in_ok-left.ensures in
    let right : IsSmall (c.args.c *ℤ c.quotient.result) × (c.in_ok-right.right ≡ c.args.c *ℤ c.quotient.result) = simp to_z-of_z at c.in_ok-right.ensures in
    let den : IsSmall (c.args.b *ℤ c.quotient-factor.result) × (c.in_ok-den.den ≡ c.args.b *ℤ c.quotient-factor.result) = simp to_z-of_z at c.in_ok-den.ensures in (
      record {
        left = subst (λ z. IsSmall (c.args.a *ℤ z)) q_is left.0;
        right = subst (λ z. IsSmall (c.args.c *ℤ z)) p_is right.0;
        den = subst (λ z. IsSmall (c.args.b *ℤ z)) q_is den.0;
      },
      simp to_z-of_z (record {
        left = left.1 ∙ ap (λ z. c.args.a *ℤ z) q_is;
        right = right.1 ∙ ap (λ z. c.args.c *ℤ z) p_is;
        den = den.1 ∙ ap (λ z. c.args.b *ℤ z) q_is;
        shared = sym (abs_pos c.common-shared.result c.common-shared.ensures.positive) ∙ ap pos (sym (gcd_is (unsigned_abs c.args.b) (unsigned_abs c.args.d) (unsigned_abs c.common-shared.result) h));
      }),
    )
