-- How large a tree is.
use Rattle.std.specs.Prelude.{ℕ, ◌+◌, max}
use Rattle.certificate.specs.declared.tree.Tree.{Tree}
use Rattle.certificate.specs.declared.tree.Tree.TheVariants.{Branch', Leaf}
use Rattle.certificate.specs.Shapes.{TreeShape, Split, End}

-- branches and leaves
abbrev pub nodes : Tree → ℕ
nodes (Branch' column at p low q high) = nodes low + nodes high + 1
nodes (Leaf leaf) = 1

-- branches on the longest path
abbrev pub longest : Tree → ℕ
longest (Branch' column at p low q high) = max (longest low) (longest high) + 1
longest (Leaf leaf) = 0

-- the same of a tree's shape
abbrev pub node_count : TreeShape → ℕ
node_count (Split column at low high) = node_count low + node_count high + 1
node_count (End leaf) = 1

abbrev pub longest_path : TreeShape → ℕ
longest_path (Split column at low high) = max (longest_path low) (longest_path high) + 1
longest_path (End leaf) = 0
