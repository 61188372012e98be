use Rattle.std.proofs.Common.{arith}
use Rattle.cert_lines.specs.Shapes.{cut_shape}
use Rattle.branching.proofs.Openings.{divisor_of, parts_of}
use Rattle.branching.proofs.beginning.row_of.Goals as goal

pub cut_row_in-requires-clause-divisor : goal.cut_row_in-requires-clause-divisor
cut_row_in-requires-clause-divisor c = divisor_of (cut_shape c.args.cut.now) c.requires.ls

pub cut_row_in-requires-clause-lines : goal.cut_row_in-requires-clause-lines
cut_row_in-requires-clause-lines c = omega (arith, parts_of (cut_shape c.args.cut.now) c.requires.ls)
