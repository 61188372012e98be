-- The first node of a tree.
use Rattle.std.specs.Prelude.{ℕ, ◌<◌, [], ◌∷◌, ◌++◌, map, ⊤}
use Rattle.cert_lines.specs.declared.limits.TheConstants.{MAX_BRANCHES}
use Rattle.cert_lines.specs.Shapes.{BranchLine, leaf_shape, list_shape}
use Rattle.certificate.specs.declared.reading.Node.{Node}
use Rattle.certificate.specs.declared.reading.Node.TheVariants.{Branch, Leaf}
use Rattle.certificate.specs.declared.reading.ReducedRows.{ReducedRows}
use Rattle.certificate.specs.Values.{Values, group_values, leaf_values, list_values, part_values}

-- the lines of a leaf over reduced costs after its first one
abbrev pub row_values : ReducedRows → Values
row_values rows = part_values rows.parts.items ++ (list_values (map list_shape rows.lists.items) ++ group_values rows.groups.items)

abbrev pub node_values : Node → Values
node_values (Branch column at) = BranchLine column at ∷ []
node_values (Leaf leaf) = leaf_values (leaf_shape leaf)

-- a branch has room on its paths
abbrev pub IsHigh : ℕ → Node → Type 0
IsHigh above (Branch column at) = above < MAX_BRANCHES
IsHigh above (Leaf leaf) = ⊤
