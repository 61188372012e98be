use Rattle.std.proofs.Common.{◌≡◌, vec_len}
use Rattle.lot_sizing.specs.Problem.{Problem}
use Rattle.cert_trees.specs.Paths.{AreChoices}
use Rattle.stream_check.specs.Nodes.{AreSmall, later}
use Rattle.stream_check.proofs.nodes.go_over.Given as goal

abbrev pub invariant-loop-bound : goal.invariant-loop-bound
invariant-loop-bound l = record {
  later_same : later l.path.items ≡ later l.fn.path.items;
  choices : (m : Problem) → AreChoices m l.fn.path.items → AreChoices m l.path.items;
  small : AreSmall l.path.items;
}

abbrev pub decreases-loop-bound : goal.decreases-loop-bound
decreases-loop-bound l = vec_len l.path
