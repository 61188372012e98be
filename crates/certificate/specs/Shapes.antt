-- A certificate as plain data: lists and trees, without what a program keeps beside them.
use Rattle.std.specs.Prelude.{ℕ, List, map}
use Rattle.lin_rows.specs.declared.column.Column.{Column}
use Rattle.cert_lines.specs.declared.parts.Claim.{Claim}
use Rattle.cert_lines.specs.Shapes.{CutShape, LeafShape, cut_shape, leaf_shape}
use Rattle.certificate.specs.declared.tree.Tree.{Tree}
use Rattle.certificate.specs.declared.tree.Tree.TheVariants.{Branch', Leaf as LeafOf}
use Rattle.certificate.specs.declared.tree.Certificate.{Certificate}

-- a branch has a column, the greatest value of its low side, and its two sides
pub data TreeShape : Type 0 where
  Split : (column : Column) → (at : ℕ) → (low high : TreeShape) → TreeShape
  End : (leaf : LeafShape) → TreeShape

pub record Shape : Type 0 where
  pub version : ℕ
  pub claim : Claim
  pub cuts : List CutShape
  pub tree : TreeShape

-- the shape of a certificate that a program has
abbrev pub tree_shape : Tree → TreeShape
tree_shape (Branch' column at p low q high) = Split column at (tree_shape low) (tree_shape high)
tree_shape (LeafOf l) = End (leaf_shape l)

abbrev pub shape_of : Certificate → Shape
shape_of c = record { version = c.version; claim = c.claim; cuts = map cut_shape c.cuts.items; tree = tree_shape c.tree }
