-- What lines speak of, as plain data: lists, without what a program keeps beside them.
use Rattle.std.specs.Prelude.{ℕ, ℤ, Bool, List, [], length, map}
use Rattle.lin_rows.specs.declared.column.Column.{Column}
use Rattle.lin_rows.specs.declared.prices.Prices.{Prices}
use Rattle.lin_rows.specs.declared.prices.Potentials.{Potentials}
use Rattle.item_groups.specs.declared.group.Group.{Group}
use Rattle.cert_lines.specs.declared.parts.Part.{Part}
use Rattle.cert_lines.specs.declared.parts.ListKind.{ListKind}
use Rattle.cert_lines.specs.declared.parts.PartList.{PartList}
use Rattle.cert_lines.specs.declared.parts.Cut.{Cut}
use Rattle.cert_lines.specs.declared.parts.Cut.TheVariants as cut
use Rattle.cert_lines.specs.declared.parts.Leaf.{Leaf}
use Rattle.cert_lines.specs.declared.parts.Leaf.TheVariants as leaf
use Rattle.cert_lines.specs.declared.line.CertLine.{CertLine}
use Rattle.cert_lines.specs.declared.line.CertLine.TheVariants as line

-- the lists of a price cut
pub record PriceLists : Type 0 where
  pub price : List ℕ
  pub unit : List ℕ
  pub hold : List ℕ
  pub back : List ℕ

-- the lists of a block cut; steps are the potentials
pub record BlockLists : Type 0 where
  pub setup : List ℕ
  pub unit : List ℕ
  pub hold : List ℕ
  pub back : List ℕ
  pub steps : List ℕ

pub data CutShape : Type 0 where
  LsCut : (item last : ℕ) → (chosen : List Bool) → CutShape
  PriceCut : (item : ℕ) → (lists : PriceLists) → CutShape
  BlockCut : (item : ℕ) → (lists : BlockLists) → CutShape
  RoundCut : (divisor : ℕ) → (parts : List Part) → CutShape

-- multiples of rows of one kind, one for each period from the first on
pub record ListShape : Type 0 where
  pub kind : ListKind
  pub index : ℕ
  pub times : List ℤ

pub data LeafShape : Type 0 where
  LinearLeaf : (den : ℤ) → (parts : List Part) → LeafShape
  FarkasLeaf : (parts : List Part) → LeafShape
  PointLeaf : LeafShape
  ReducedLeaf : (den : ℕ) → (parts : List Part) → (lists : List ListShape) → (groups : List Group) → LeafShape

-- a line after the first three
pub data LineShape : Type 0 where
  CutLine : (cut : CutShape) → LineShape
  RoundLine : (divisor parts : ℕ) → LineShape
  PartLine : (part : Part) → LineShape
  BranchLine : (column : Column) → (at : ℕ) → LineShape
  LinearLine : (den : ℤ) → (parts : ℕ) → LineShape
  FarkasLine : (parts : ℕ) → LineShape
  PointLine : LineShape
  ReducedLine : (den parts lists groups : ℕ) → LineShape
  ListLine : (list : ListShape) → LineShape
  GroupLine : (group : Group) → LineShape
  EndLine : LineShape

-- the first line of a cut, and its parts, whose lines follow
abbrev pub cut_first : CutShape → LineShape
cut_first (LsCut item last chosen) = CutLine (LsCut item last chosen)
cut_first (PriceCut item lists) = CutLine (PriceCut item lists)
cut_first (BlockCut item lists) = CutLine (BlockCut item lists)
cut_first (RoundCut divisor parts) = RoundLine divisor (length parts)

abbrev pub cut_parts : CutShape → List Part
cut_parts (LsCut item last chosen) = []
cut_parts (PriceCut item lists) = []
cut_parts (BlockCut item lists) = []
cut_parts (RoundCut divisor parts) = parts

-- the first line of a leaf, and its parts, lists and groups, whose lines follow
abbrev pub leaf_first : LeafShape → LineShape
leaf_first (LinearLeaf den parts) = LinearLine den (length parts)
leaf_first (FarkasLeaf parts) = FarkasLine (length parts)
leaf_first PointLeaf = PointLine
leaf_first (ReducedLeaf den parts lists groups) = ReducedLine den (length parts) (length lists) (length groups)

abbrev pub leaf_parts : LeafShape → List Part
leaf_parts (LinearLeaf den parts) = parts
leaf_parts (FarkasLeaf parts) = parts
leaf_parts PointLeaf = []
leaf_parts (ReducedLeaf den parts lists groups) = parts

abbrev pub leaf_lists : LeafShape → List ListShape
leaf_lists (LinearLeaf den parts) = []
leaf_lists (FarkasLeaf parts) = []
leaf_lists PointLeaf = []
leaf_lists (ReducedLeaf den parts lists groups) = lists

abbrev pub leaf_groups : LeafShape → List Group
leaf_groups (LinearLeaf den parts) = []
leaf_groups (FarkasLeaf parts) = []
leaf_groups PointLeaf = []
leaf_groups (ReducedLeaf den parts lists groups) = groups

-- the shapes of what a program has
abbrev pub price_lists : Prices → PriceLists
price_lists a = record { price = a.price.items; unit = a.unit.items; hold = a.hold.items; back = a.back.items }

abbrev pub block_lists : Potentials → BlockLists
block_lists a = record { setup = a.setup.items; unit = a.unit.items; hold = a.hold.items; back = a.back.items; steps = a.steps.items }

abbrev pub cut_shape : Cut → CutShape
cut_shape (cut.Ls item last chosen) = LsCut item last chosen.items
cut_shape (cut.Price item prices) = PriceCut item (price_lists prices)
cut_shape (cut.Block item potentials) = BlockCut item (block_lists potentials)
cut_shape (cut.Round divisor parts) = RoundCut divisor parts.items

abbrev pub list_shape : PartList → ListShape
list_shape a = record { kind = a.kind; index = a.index; times = a.times.items }

abbrev pub leaf_shape : Leaf → LeafShape
leaf_shape (leaf.Linear den parts) = LinearLeaf den parts.items
leaf_shape (leaf.Farkas parts) = FarkasLeaf parts.items
leaf_shape leaf.Point = PointLeaf
leaf_shape (leaf.Reduced den parts lists groups) = ReducedLeaf den parts.items (map list_shape lists.items) groups.items

abbrev pub line_shape : CertLine → LineShape
line_shape (line.Cut c) = CutLine (cut_shape c)
line_shape (line.Round divisor parts) = RoundLine divisor parts
line_shape (line.Part part) = PartLine part
line_shape (line.Branch column at) = BranchLine column at
line_shape (line.Linear den parts) = LinearLine den parts
line_shape (line.Farkas parts) = FarkasLine parts
line_shape line.Point = PointLine
line_shape (line.Reduced den parts lists groups) = ReducedLine den parts lists groups
line_shape (line.List a) = ListLine (list_shape a)
line_shape (line.Group g) = GroupLine g
line_shape line.End = EndLine
