use Rattle.std.proofs.Common.{rules, FitsSigned}
use Rattle.std.specs.Int.{w128}
use Rattle.std.proofs.lemmas.Int.{to_z-of_z}
use Rattle.frac128.proofs.Wholes.{whole_lowest, whole_made}
use Rattle.frac128.proofs.fraction.Frac.of_whole.Goals as goal

pub invariant_of-result : goal.invariant_of-result
invariant_of-result c =
    let f : FitsSigned w128 c.args.number = search rules in
    simp to_z-of_z (whole_lowest c.args.number, c.requires)

pub returns : goal.returns
returns c =
    let f : FitsSigned w128 c.args.number = search rules in
    simp to_z-of_z (whole_made c.args.number)
