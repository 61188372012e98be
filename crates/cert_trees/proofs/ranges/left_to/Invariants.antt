use Rattle.std.proofs.Common.{◌≡◌, take}
use Rattle.cert_trees.specs.Spans.{span_of}
use Rattle.cert_trees.specs.Paths.{left_to}
use Rattle.cert_trees.proofs.ranges.left_to.Given as goal

abbrev pub invariant-loop-bound : goal.invariant-loop-bound
invariant-loop-bound l = span_of l.left ≡ left_to (span_of l.fn.range) (take l.bound-index l.path) l.column
