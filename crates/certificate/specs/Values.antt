-- A certificate as the values of its lines.
use Rattle.std.specs.Prelude.{ℕ, List, [], ◌∷◌, ◌++◌, map, ⊤}
use Rattle.std.specs.List.{flat_map}
use Rattle.item_groups.specs.declared.group.Group.{Group}
use Rattle.cert_lines.specs.declared.parts.Part.{Part}
use Rattle.cert_lines.specs.Shapes.{BranchLine, CutShape, EndLine, GroupLine, LeafShape, LineShape, ListLine, ListShape, PartLine, cut_first, cut_parts, leaf_first, leaf_groups, leaf_lists, leaf_parts}
use Rattle.cert_lines.specs.Text.{line_text}
use Rattle.cert_lines.specs.Line.{HasLine, later_line}
use Rattle.certificate.specs.Shapes.{Shape, TreeShape, Split, End}

abbrev pub Values : Type 0
Values = List LineShape

-- a line with its line feed
abbrev pub value_text : LineShape → List ℕ
value_text l = line_text (later_line l)

abbrev pub values_text : Values → List ℕ
values_text ls = flat_map value_text ls

-- each has a line in texts of this version
abbrev pub AreLines : ℕ → Values → Type 0
AreLines version [] = ⊤
AreLines version (l ∷ ls) = HasLine version l × AreLines version ls

abbrev pub part_values : List Part → Values
part_values parts = map (λ part. PartLine part) parts

abbrev pub list_values : List ListShape → Values
list_values lists = map (λ a. ListLine a) lists

abbrev pub group_values : List Group → Values
group_values groups = map (λ g. GroupLine g) groups

-- a cut, and its parts
abbrev pub cut_values : CutShape → Values
cut_values c = cut_first c ∷ part_values (cut_parts c)

abbrev pub all_cut_values : List CutShape → Values
all_cut_values cuts = flat_map cut_values cuts

-- a leaf, and its parts, lists and groups
abbrev pub leaf_values : LeafShape → Values
leaf_values l = leaf_first l ∷ (part_values (leaf_parts l) ++ (list_values (leaf_lists l) ++ group_values (leaf_groups l)))

-- a branch, its low side and its high side
abbrev pub tree_values : TreeShape → Values
tree_values (Split column at low high) = BranchLine column at ∷ (tree_values low ++ tree_values high)
tree_values (End l) = leaf_values l

-- the lines after the first three
abbrev pub body_values : Shape → Values
body_values s = all_cut_values s.cuts ++ (tree_values s.tree ++ EndLine ∷ [])
