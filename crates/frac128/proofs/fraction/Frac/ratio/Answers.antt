use Rattle.std.proofs.Common.{of_z, rules, ◌≡◌, ◌≢◌, ◌*ℤ◌, pos, ◌∙◌, sym, ap, FitsSigned}
use Rattle.std.proofs.lemmas.Int.{to_z-of_z}
use Rattle.rational.specs.Rational.{◌*ℚ◌}
use Rattle.frac128.specs.Limits.{IsSmall}
use Rattle.frac128.proofs.Ratios.{product_fits}
use Rattle.std.specs.Int.{w128}
use Rattle.rational.specs.Rational.{make, whole}
use Rattle.frac128.specs.Limits.{Fits, divided_ℚ}
use Rattle.frac128.proofs.Multiples.{num_from_zero, zero_from_num}
use Rattle.frac128.proofs.fraction.Frac.ratio.Goals as goal

pub returns-then-other-eq0 : goal.returns-then-other-eq0
returns-then-other-eq0 c = λ h.
    let f : FitsSigned w128 c.other.inside.num = search rules in
    let zero : c.other.inside.num ≡ pos 0 = search (rules, c.if-other-eq0.true) in
    h.0 (sym c.other.view_is ∙ ap (λ n. make n c.other.inside.den) zero ∙ zero_from_num c.other.inside.den c.other.invariant.0.0)

pub inverse-turned-requires : goal.inverse-turned-requires
inverse-turned-requires c = λ e. c.if-other-eq0.false (ap (of_z w128) (num_from_zero c.other.inside.num c.other.inside.den c.other.invariant.0 (c.other.view_is ∙ e)))

pub invariant_of-result : goal.invariant_of-result
invariant_of-result c =
    let f1 : FitsSigned w128 c.self.inside.num = search rules in
    let f2 : FitsSigned w128 c.self.inside.den = search rules in
    let f3 : FitsSigned w128 c.turned.inside.num = search rules in
    let f4 : FitsSigned w128 c.turned.inside.den = search rules in
    let f5 : FitsSigned w128 c.in-Some-Some.num = search rules in
    let f6 : FitsSigned w128 c.in-Some-Some.den = search rules in
    let a = c.self.inside.num in
    let b = c.self.inside.den in
    let m = c.turned.inside.num in
    let d = c.turned.inside.den in
    let num : IsSmall (a *ℤ m) × (c.in-Some-Some.num ≡ a *ℤ m) = simp to_z-of_z at c.in-Some-Some.ensures in
    let den : IsSmall (b *ℤ d) × (c.in-Some-Some.den ≡ b *ℤ d) = simp to_z-of_z at c.in-Some-Some.ensures' in
    let r = product_fits a b m d c.in-Some-Some.num c.in-Some-Some.den c.args.self c.inverse-turned.result (divided_ℚ c.args.self c.args.other) c.self.invariant.0.0 c.turned.invariant.0.0 c.self.view_is c.turned.view_is (ap (λ y. c.args.self *ℚ y) c.inverse-turned.ensures) num den in
    simp to_z-of_z r.above

pub returns-in-Some-Some : goal.returns-in-Some-Some
returns-in-Some-Some c =
    let f1 : FitsSigned w128 c.self.inside.num = search rules in
    let f2 : FitsSigned w128 c.self.inside.den = search rules in
    let f3 : FitsSigned w128 c.turned.inside.num = search rules in
    let f4 : FitsSigned w128 c.turned.inside.den = search rules in
    let f5 : FitsSigned w128 c.in-Some-Some.num = search rules in
    let f6 : FitsSigned w128 c.in-Some-Some.den = search rules in
    let a = c.self.inside.num in
    let b = c.self.inside.den in
    let m = c.turned.inside.num in
    let d = c.turned.inside.den in
    let num : IsSmall (a *ℤ m) × (c.in-Some-Some.num ≡ a *ℤ m) = simp to_z-of_z at c.in-Some-Some.ensures in
    let den : IsSmall (b *ℤ d) × (c.in-Some-Some.den ≡ b *ℤ d) = simp to_z-of_z at c.in-Some-Some.ensures' in
    let r = product_fits a b m d c.in-Some-Some.num c.in-Some-Some.den c.args.self c.inverse-turned.result (divided_ℚ c.args.self c.args.other) c.self.invariant.0.0 c.turned.invariant.0.0 c.self.view_is c.turned.view_is (ap (λ y. c.args.self *ℚ y) c.inverse-turned.ensures) num den in
    let some : c.args.other ≢ whole (pos 0) = λ e. c.if-other-eq0.false (ap (of_z w128) (num_from_zero c.other.inside.num c.other.inside.den c.other.invariant.0 (c.other.view_is ∙ e))) in
    ((some, r.fits), simp to_z-of_z r.value)

pub returns-in_err-quotient : goal.returns-in_err-quotient
returns-in_err-quotient c =
    let n : ¬ (Fits (divided_ℚ c.args.self c.args.other)) = rw c.inverse-turned.ensures at c.in_err-quotient.ensures in
    rw c.from_residual.ensures (λ both. n both.1)

pub returns : goal.returns
returns c =
    let f1 : FitsSigned w128 c.quotient.inside.num = search rules in
    let f2 : FitsSigned w128 c.quotient.inside.den = search rules in
    let some : c.args.other ≢ whole (pos 0) = λ e. c.if-other-eq0.false (ap (of_z w128) (num_from_zero c.other.inside.num c.other.inside.den c.other.invariant.0 (c.other.view_is ∙ e))) in
    let is : Fits (divided_ℚ c.args.self c.args.other) × (c.in_ok-quotient.quotient ≡ divided_ℚ c.args.self c.args.other) = rw c.inverse-turned.ensures at c.in_ok-quotient.ensures in
    ((some, is.0), simp to_z-of_z (c.quotient.view_is ∙ is.1))
