use Rattle.std.specs.Prelude.{map}
use Rattle.cert_lines.specs.Shapes.{cut_shape}
use Rattle.cert_checker.proofs.CheckCuts.{AreMade}
use Rattle.cert_checker.proofs.checking.cut_rows.Given as goal

abbrev pub invariant-loop-cut : goal.invariant-loop-cut
invariant-loop-cut l = AreMade l.instance (map cut_shape l.cuts) l.cut-index l.rows.items l.line
