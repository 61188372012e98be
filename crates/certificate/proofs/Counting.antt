-- A tree and its shape have the same numbers of nodes and of branches on a path.
use Rattle.std.proofs.Common.{◌≡◌, refl, arith}
use Rattle.certificate.specs.declared.tree.Tree.{Tree}
use Rattle.certificate.specs.declared.tree.Tree.TheVariants.{Branch', Leaf as LeafOf}
use Rattle.certificate.specs.Shapes.{tree_shape}
use Rattle.certificate.specs.Counts.{longest, longest_path, node_count, nodes}

pub same_nodes : (t : Tree) → node_count (tree_shape t) ≡ nodes t
same_nodes (Branch' column at p low q high) = omega (arith, same_nodes low, same_nodes high)
same_nodes (LeafOf l) = refl

pub same_longest : (t : Tree) → longest_path (tree_shape t) ≡ longest t
same_longest (Branch' column at p low q high) = omega (arith, same_longest low, same_longest high)
same_longest (LeafOf l) = refl
