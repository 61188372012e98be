use Rattle.std.proofs.Common.{rules, sym, FitsSigned}
use Rattle.std.specs.Int.{w128}
use Rattle.std.proofs.lemmas.Int.{to_z-of_z}
use Rattle.rational.proofs.Rationals.{parts_of}
use Rattle.frac128.proofs.fraction.Frac.den.Goals as goal

pub returns-clause-value : goal.returns-clause-value
returns-clause-value c =
    let f : FitsSigned w128 c.self.inside.den = search rules in
    simp to_z-of_z (sym (parts_of c.args.self c.self.inside.num c.self.inside.den c.self.view_is c.self.invariant.0).1)
