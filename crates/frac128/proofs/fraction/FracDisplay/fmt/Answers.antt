use Rattle.std.proofs.Common.{rules, ap, sym, subst, to_z, of_z, FitsSigned}
use Rattle.std.specs.Fmt.{HasWritten}
use Rattle.std.specs.Int.{w128}
use Rattle.std.proofs.lemmas.Int.{to_z-of_z}
use Rattle.frac128.proofs.Texts.{text_over, text_whole}
use Rattle.frac128.proofs.fraction.FracDisplay.fmt.Goals as goal

pub returns-then-den-eq1-clause-writes : goal.returns-then-den-eq1-clause-writes
returns-then-den-eq1-clause-writes g c =
    let num_fits : FitsSigned w128 c.self.inside.num = search rules in
    let den_fits : FitsSigned w128 c.self.inside.den = search rules in
    let e = text_whole c.args.self.now c.self.inside.num c.self.inside.den (to_z w128 (of_z w128 c.self.inside.num)) c.self.view_is c.self.invariant.0 (simp to_z-of_z at (ap (to_z w128) c.if-den-eq1.true)) (to_z-of_z w128 c.self.inside.num num_fits) in
    λ plain ok. subst (λ t. HasWritten {W = g.row.W.Denot} g.W.Write.write_str_gives c.args.f.now t c.write.new.self) (sym e) (c.write.ensures.writes plain ok)

pub returns-clause-writes : goal.returns-clause-writes
returns-clause-writes g c =
    let num_fits : FitsSigned w128 c.self.inside.num = search rules in
    let den_fits : FitsSigned w128 c.self.inside.den = search rules in
    let e = text_over c.args.self.now c.self.inside.num c.self.inside.den (to_z w128 (of_z w128 c.self.inside.num)) (to_z w128 (of_z w128 c.self.inside.den)) c.self.view_is c.self.invariant.0 (λ h. c.if-den-eq1.false (ap (of_z w128) h)) (to_z-of_z w128 c.self.inside.num num_fits) (to_z-of_z w128 c.self.inside.den den_fits) in
    λ plain ok. subst (λ t. HasWritten {W = g.row.W.Denot} g.W.Write.write_str_gives c.args.f.now t c.write-2.new.self) (sym e) (c.write-2.ensures.writes plain ok)
