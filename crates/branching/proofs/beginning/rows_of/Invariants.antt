use Rattle.std.specs.Prelude.{map}
use Rattle.cert_lines.specs.Shapes.{cut_shape}
use Rattle.branching.proofs.Openings.{AreMadeTo}
use Rattle.branching.proofs.beginning.rows_of.Given as goal

abbrev pub invariant-loop-cut : goal.invariant-loop-cut
invariant-loop-cut l = AreMadeTo l.instance (map cut_shape l.cuts) l.cut-index l.rows.items
