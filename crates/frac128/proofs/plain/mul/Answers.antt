use Rattle.std.proofs.Common.{rules, ◌≡◌, ◌*ℤ◌, ◌∙◌, refl, FitsSigned}
use Rattle.std.specs.Prelude.{int_div}
use Rattle.std.specs.Int.{w128}
use Rattle.std.proofs.lemmas.Int.{to_z-of_z}
use Rattle.rational.specs.Rational.{make, ◌*ℚ◌}
use Rattle.frac128.specs.Limits.{Fits, IsSmall}
use Rattle.frac128.proofs.Multiples.{fits_parts, parts_fit, product_of}
use Rattle.frac128.proofs.plain.mul.Goals as goal

pub returns-in_err-num : goal.returns-in_err-num
returns-in_err-num c =
    let f1 : FitsSigned w128 c.one.inside.num = search rules in
    let f2 : FitsSigned w128 c.one.inside.den = search rules in
    let f3 : FitsSigned w128 c.other.inside.num = search rules in
    let f4 : FitsSigned w128 c.other.inside.den = search rules in
    let fg : FitsSigned w128 c.common-across.result = search rules in
    let fh : FitsSigned w128 c.common-back.result = search rules in
    let fp : FitsSigned w128 c.quotient.result = search rules in
    let fr : FitsSigned w128 c.quotient-2.result = search rules in
    let a = c.one.inside.num in
    let b = c.one.inside.den in
    let m = c.other.inside.num in
    let d = c.other.inside.den in
    let g = c.common-across.result in
    let h = c.common-back.result in
    let ep : c.quotient.result ≡ int_div a g = simp to_z-of_z at c.quotient.ensures in
    let er : c.quotient-2.result ≡ int_div m h = simp to_z-of_z at c.quotient-2.ensures in
    let made = product_of a b m d g h c.quotient.result (int_div b h) c.quotient-2.result (int_div d g) c.one.invariant.0 c.other.invariant.0 c.common-across.ensures.positive (simp to_z-of_z at c.common-across.ensures.is) c.common-back.ensures.positive (simp to_z-of_z at c.common-back.ensures.is) ep er refl refl in
    let is : make (c.quotient.result *ℤ c.quotient-2.result) (int_div b h *ℤ int_div d g) ≡ c.args.one *ℚ c.args.other = made.1 ∙ rw (c.one.view_is, c.other.view_is) refl in
    let n : ¬ (IsSmall (c.quotient.result *ℤ c.quotient-2.result)) = simp to_z-of_z at c.in_err-num.ensures in
    rw c.from_residual.ensures (λ (fits : Fits (c.args.one *ℚ c.args.other)). n (fits_parts (c.quotient.result *ℤ c.quotient-2.result) (int_div b h *ℤ int_div d g) (c.args.one *ℚ c.args.other) made.0 is fits).0)

pub returns-in_err-den : goal.returns-in_err-den
returns-in_err-den c =
    let f1 : FitsSigned w128 c.one.inside.num = search rules in
    let f2 : FitsSigned w128 c.one.inside.den = search rules in
    let f3 : FitsSigned w128 c.other.inside.num = search rules in
    let f4 : FitsSigned w128 c.other.inside.den = search rules in
    let fg : FitsSigned w128 c.common-across.result = search rules in
    let fh : FitsSigned w128 c.common-back.result = search rules in
    let fq : FitsSigned w128 c.quotient-3.result = search rules in
    let fs : FitsSigned w128 c.quotient-4.result = search rules in
    let a = c.one.inside.num in
    let b = c.one.inside.den in
    let m = c.other.inside.num in
    let d = c.other.inside.den in
    let g = c.common-across.result in
    let h = c.common-back.result in
    let eq : c.quotient-3.result ≡ int_div b h = simp to_z-of_z at c.quotient-3.ensures in
    let es : c.quotient-4.result ≡ int_div d g = simp to_z-of_z at c.quotient-4.ensures in
    let made = product_of a b m d g h (int_div a g) c.quotient-3.result (int_div m h) c.quotient-4.result c.one.invariant.0 c.other.invariant.0 c.common-across.ensures.positive (simp to_z-of_z at c.common-across.ensures.is) c.common-back.ensures.positive (simp to_z-of_z at c.common-back.ensures.is) refl refl eq es in
    let is : make (int_div a g *ℤ int_div m h) (c.quotient-3.result *ℤ c.quotient-4.result) ≡ c.args.one *ℚ c.args.other = made.1 ∙ rw (c.one.view_is, c.other.view_is) refl in
    let n : ¬ (IsSmall (c.quotient-3.result *ℤ c.quotient-4.result)) = simp to_z-of_z at c.in_err-den.ensures in
    rw c.from_residual-in_err-den.ensures (λ (fits : Fits (c.args.one *ℚ c.args.other)). n (fits_parts (int_div a g *ℤ int_div m h) (c.quotient-3.result *ℤ c.quotient-4.result) (c.args.one *ℚ c.args.other) made.0 is fits).1)

pub invariant_of-result : goal.invariant_of-result
invariant_of-result c =
    let f1 : FitsSigned w128 c.one.inside.num = search rules in
    let f2 : FitsSigned w128 c.one.inside.den = search rules in
    let f3 : FitsSigned w128 c.other.inside.num = search rules in
    let f4 : FitsSigned w128 c.other.inside.den = search rules in
    let fg : FitsSigned w128 c.common-across.result = search rules in
    let fh : FitsSigned w128 c.common-back.result = search rules in
    let fp : FitsSigned w128 c.quotient.result = search rules in
    let fr : FitsSigned w128 c.quotient-2.result = search rules in
    let fq : FitsSigned w128 c.quotient-3.result = search rules in
    let fs : FitsSigned w128 c.quotient-4.result = search rules in
    let fn : FitsSigned w128 c.in_ok-num.num = search rules in
    let fe : FitsSigned w128 c.in_ok-den.den = search rules in
    let a = c.one.inside.num in
    let b = c.one.inside.den in
    let m = c.other.inside.num in
    let d = c.other.inside.den in
    let g = c.common-across.result in
    let h = c.common-back.result in
    let p = c.quotient.result in
    let r = c.quotient-2.result in
    let q = c.quotient-3.result in
    let s = c.quotient-4.result in
    let ep : p ≡ int_div a g = simp to_z-of_z at c.quotient.ensures in
    let er : r ≡ int_div m h = simp to_z-of_z at c.quotient-2.ensures in
    let eq : q ≡ int_div b h = simp to_z-of_z at c.quotient-3.ensures in
    let es : s ≡ int_div d g = simp to_z-of_z at c.quotient-4.ensures in
    let made = product_of a b m d g h p q r s c.one.invariant.0 c.other.invariant.0 c.common-across.ensures.positive (simp to_z-of_z at c.common-across.ensures.is) c.common-back.ensures.positive (simp to_z-of_z at c.common-back.ensures.is) ep er eq es in
    let num : IsSmall (p *ℤ r) × (c.in_ok-num.num ≡ p *ℤ r) = simp to_z-of_z at c.in_ok-num.ensures in
    let den : IsSmall (q *ℤ s) × (c.in_ok-den.den ≡ q *ℤ s) = simp to_z-of_z at c.in_ok-den.ensures in
    simp to_z-of_z (rw (num.1, den.1) (made.0, num.0))

pub returns : goal.returns
returns c =
    let f1 : FitsSigned w128 c.one.inside.num = search rules in
    let f2 : FitsSigned w128 c.one.inside.den = search rules in
    let f3 : FitsSigned w128 c.other.inside.num = search rules in
    let f4 : FitsSigned w128 c.other.inside.den = search rules in
    let fg : FitsSigned w128 c.common-across.result = search rules in
    let fh : FitsSigned w128 c.common-back.result = search rules in
    let fp : FitsSigned w128 c.quotient.result = search rules in
    let fr : FitsSigned w128 c.quotient-2.result = search rules in
    let fq : FitsSigned w128 c.quotient-3.result = search rules in
    let fs : FitsSigned w128 c.quotient-4.result = search rules in
    let fn : FitsSigned w128 c.in_ok-num.num = search rules in
    let fe : FitsSigned w128 c.in_ok-den.den = search rules in
    let a = c.one.inside.num in
    let b = c.one.inside.den in
    let m = c.other.inside.num in
    let d = c.other.inside.den in
    let g = c.common-across.result in
    let h = c.common-back.result in
    let p = c.quotient.result in
    let r = c.quotient-2.result in
    let q = c.quotient-3.result in
    let s = c.quotient-4.result in
    let ep : p ≡ int_div a g = simp to_z-of_z at c.quotient.ensures in
    let er : r ≡ int_div m h = simp to_z-of_z at c.quotient-2.ensures in
    let eq : q ≡ int_div b h = simp to_z-of_z at c.quotient-3.ensures in
    let es : s ≡ int_div d g = simp to_z-of_z at c.quotient-4.ensures in
    let made = product_of a b m d g h p q r s c.one.invariant.0 c.other.invariant.0 c.common-across.ensures.positive (simp to_z-of_z at c.common-across.ensures.is) c.common-back.ensures.positive (simp to_z-of_z at c.common-back.ensures.is) ep er eq es in
    let num : IsSmall (p *ℤ r) × (c.in_ok-num.num ≡ p *ℤ r) = simp to_z-of_z at c.in_ok-num.ensures in
    let den : IsSmall (q *ℤ s) × (c.in_ok-den.den ≡ q *ℤ s) = simp to_z-of_z at c.in_ok-den.ensures in
    let is : make (p *ℤ r) (q *ℤ s) ≡ c.args.one *ℚ c.args.other = made.1 ∙ rw (c.one.view_is, c.other.view_is) refl in (
      parts_fit (p *ℤ r) (q *ℤ s) (c.args.one *ℚ c.args.other) made.0 is num.0 den.0,
      simp to_z-of_z (rw (num.1, den.1) is),
    )
