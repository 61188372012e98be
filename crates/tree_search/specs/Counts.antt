-- How large a tree is whose leaves carry what they say.
use Rattle.std.specs.Prelude.{ℕ, ◌+◌, max}
use Rattle.tree_search.specs.declared.sought.Sought.{Sought}
use Rattle.tree_search.specs.declared.sought.Sought.TheVariants.{Branch', Leaf}

-- branches and leaves
abbrev pub nodes : Sought → ℕ
nodes (Branch' column place at p low q high) = nodes low + nodes high + 1
nodes (Leaf leaf) = 1

-- branches alone
abbrev pub branches : Sought → ℕ
branches (Branch' column place at p low q high) = branches low + branches high + 1
branches (Leaf leaf) = 0

-- branches on the longest path
abbrev pub longest : Sought → ℕ
longest (Branch' column place at p low q high) = max (longest low) (longest high) + 1
longest (Leaf leaf) = 0
