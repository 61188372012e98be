use Rattle.std.proofs.Common.{rules, ◌≢◌, pos, ◌-ℤ◌, ◌<ℤ◌, ◌∙◌, sym, ap, arith, FitsSigned}
use Rattle.std.specs.Int.{w128}
use Rattle.std.proofs.lemmas.Int.{ints, to_z-of_z}
use Rattle.rational.specs.Rational.{make}
use Rattle.rational.proofs.Rationals.{parts_of}
use Rattle.frac128.specs.Limits.{IsSmall}
use Rattle.frac128.proofs.Inverses.{above_zero, below_zero, inv_negative, inv_positive, negated, small_negated, swapped}
use Rattle.frac128.proofs.Multiples.{zero_from_num}
use Rattle.frac128.proofs.fraction.Frac.inverse.Goals as goal

pub invariant_of-t-3 : goal.invariant_of-t-3
invariant_of-t-3 c =
    let f1 : FitsSigned w128 c.self.inside.num = search rules in
    let f2 : FitsSigned w128 c.self.inside.den = search rules in
    let above : pos 0 <ℤ c.self.inside.num = above_zero c.self.inside.num (simp to_z-of_z at c.if-self-gt0.true) in
    let p = c.self.invariant.0.0 in
    let den : IsSmall c.self.inside.den = omega (arith, ints) in
    simp to_z-of_z (swapped c.self.inside.num c.self.inside.den c.self.invariant.0 above, den)

pub returns-then-self-gt0 : goal.returns-then-self-gt0
returns-then-self-gt0 c =
    let f1 : FitsSigned w128 c.self.inside.num = search rules in
    let f2 : FitsSigned w128 c.self.inside.den = search rules in
    let a = c.self.inside.num in
    let b = c.self.inside.den in
    let x = parts_of c.args.self a b c.self.view_is c.self.invariant.0 in
    let above : pos 0 <ℤ a = above_zero c.self.inside.num (simp to_z-of_z at c.if-self-gt0.true) in
    simp to_z-of_z (sym (inv_positive c.args.self a b x.0 x.1 above))

pub invariant_of-result : goal.invariant_of-result
invariant_of-result c =
    let f1 : FitsSigned w128 c.self.inside.num = search rules in
    let f2 : FitsSigned w128 c.self.inside.den = search rules in
    let a = c.self.inside.num in
    let b = c.self.inside.den in
    let p = c.self.invariant.0.0 in
    let small = c.self.invariant.1 in
    let f3 : FitsSigned w128 (pos 0 -ℤ a) = omega (arith, ints) in
    let f4 : FitsSigned w128 (pos 0 -ℤ b) = omega (arith, ints) in
    let some : a ≢ pos 0 = λ e. c.requires (sym c.self.view_is ∙ ap (λ n. make n b) e ∙ zero_from_num b p) in
    let below = below_zero a (simp to_z-of_z at c.if-self-gt0.false) some in
    let den : IsSmall b = omega (arith, ints) in
    simp to_z-of_z (negated a b c.self.invariant.0 below, small_negated b den)

pub returns-else-self-gt0 : goal.returns-else-self-gt0
returns-else-self-gt0 c =
    let f1 : FitsSigned w128 c.self.inside.num = search rules in
    let f2 : FitsSigned w128 c.self.inside.den = search rules in
    let a = c.self.inside.num in
    let b = c.self.inside.den in
    let p = c.self.invariant.0.0 in
    let small = c.self.invariant.1 in
    let f3 : FitsSigned w128 (pos 0 -ℤ a) = omega (arith, ints) in
    let f4 : FitsSigned w128 (pos 0 -ℤ b) = omega (arith, ints) in
    let some : a ≢ pos 0 = λ e. c.requires (sym c.self.view_is ∙ ap (λ n. make n b) e ∙ zero_from_num b p) in
    let below = below_zero a (simp to_z-of_z at c.if-self-gt0.false) some in
    let x = parts_of c.args.self a b c.self.view_is c.self.invariant.0 in
    simp to_z-of_z (sym (inv_negative c.args.self a b x.0 x.1 below))
