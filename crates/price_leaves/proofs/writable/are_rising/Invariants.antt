use Rattle.std.specs.Prelude.{drop, map}
use Rattle.cert_lines.specs.Shapes.{cut_shape}
use Rattle.price_leaves.specs.Proposals.{AreRising}
use Rattle.price_leaves.proofs.writable.are_rising.Given as goal

abbrev pub invariant-loop-cut : goal.invariant-loop-cut
invariant-loop-cut l = AreRising l.most l.last (map cut_shape (drop l.cut-index l.cuts)) → AreRising l.most 0 (map cut_shape l.cuts)
