use Rattle.std.proofs.Common.{pos, ◌-ℤ◌, rules, arith, FitsSigned}
use Rattle.std.specs.Int.{w128}
use Rattle.std.proofs.lemmas.Int.{ints, to_z-of_z}
use Rattle.frac128.proofs.Inverses.{small_negated}
use Rattle.frac128.proofs.Wholes.{opposite_lowest, opposite_made}
use Rattle.frac128.proofs.signs.FracNeg.neg.Goals as goal

pub invariant_of-result : goal.invariant_of-result
invariant_of-result c =
    let f1 : FitsSigned w128 c.self.inside.num = search rules in
    let f2 : FitsSigned w128 c.self.inside.den = search rules in
    let small = c.self.invariant.1 in
    let f3 : FitsSigned w128 (pos 0 -ℤ c.self.inside.num) = omega (arith, ints) in
    simp to_z-of_z (opposite_lowest c.self.inside.num c.self.inside.den c.self.invariant.0, small_negated c.self.inside.num small)

pub returns : goal.returns
returns c =
    let f1 : FitsSigned w128 c.self.inside.num = search rules in
    let f2 : FitsSigned w128 c.self.inside.den = search rules in
    let small = c.self.invariant.1 in
    let f3 : FitsSigned w128 (pos 0 -ℤ c.self.inside.num) = omega (arith, ints) in
    simp to_z-of_z (opposite_made c.self.inside.num c.self.inside.den c.args.self c.self.invariant.0.0 c.self.view_is)
