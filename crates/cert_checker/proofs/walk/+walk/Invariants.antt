use Rattle.certificate.specs.Counts.{node_count}
use Rattle.certificate.specs.Shapes.{tree_shape}
use Rattle.cert_checker.proofs.walk.+walk.Given as goal

abbrev pub decreases-walk : goal.decreases-walk
decreases-walk l = node_count (tree_shape l.tree.now)
