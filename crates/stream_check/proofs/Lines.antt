-- What a line says of the unit that it begins.
use Rattle.std.proofs.Common.{◌≡◌, ◌≢◌, ℕ, ℤ, refl, sym, ap, subst, arith, List, [], ◌∷◌, ◌++◌, append-nil, length, length-append, codes}
use Rattle.lin_rows.specs.declared.column.Column.{Column}
use Rattle.item_groups.specs.declared.group.Group.{Group}
use Rattle.cert_lines.specs.declared.parts.Cut.{Cut}
use Rattle.cert_lines.specs.declared.parts.Leaf.{Leaf}
use Rattle.cert_lines.specs.declared.parts.Part.{Part}
use Rattle.cert_lines.specs.declared.parts.PartList.{PartList}
use Rattle.cert_lines.specs.declared.line.CertLine.{CertLine}
use Rattle.cert_lines.specs.declared.line.CertLine.TheVariants as line
use Rattle.cert_lines.specs.Line.{HasLine, later_line}
use Rattle.cert_lines.specs.Shapes.{BlockCut, BranchLine, CutLine, CutShape, EndLine, FarkasLeaf, FarkasLine, GroupLine, LeafShape, LineShape, LinearLeaf, LinearLine, ListLine, ListShape, LsCut, PartLine, PointLeaf, PointLine, PriceCut, ReducedLeaf, ReducedLine, RoundCut, RoundLine, cut_first, cut_parts, leaf_first, leaf_groups, leaf_lists, leaf_parts, leaf_shape, line_shape}
use Rattle.certificate.specs.Shapes.{End, Split, TreeShape}
use Rattle.certificate.specs.Dues.{Takes, a_cut, a_group, a_list, a_part, a_tree, the_end}
use Rattle.certificate.specs.Values.{Values, group_values, list_values, part_values, tree_values, value_text}
use Rattle.certificate.proofs.Needed.{not_cut, not_end, not_tree}
use Rattle.cert_checker.specs.Cuts.{HasDivisor}
use Rattle.stream_check.specs.declared.units.Node.TheVariants as node
use Rattle.stream_check.specs.Nodes.{IsFirstOf, reduced_values}

-- ---- a cut
-- a cut of one line has no parts
pub line_cut : {version : ℕ} (c : CutShape) → HasLine version (CutLine c) → (HasDivisor c) × (cut_parts c ≡ [])
line_cut (LsCut item last chosen) is = (tt, refl)
line_cut (PriceCut item lists) is = (tt, refl)
line_cut (BlockCut item lists) is = (tt, refl)
line_cut (RoundCut divisor parts) is = absurd is.form.small

-- it is the cut that was awaited
pub same_cut : (c cut : CutShape) → CutLine c ≡ cut_first cut → (c ≡ cut) × (cut_parts cut ≡ [])
same_cut c (LsCut item last chosen) e = (cc, refl)
same_cut c (PriceCut item lists) e = (cc, refl)
same_cut c (BlockCut item lists) e = (cc, refl)
same_cut c (RoundCut divisor parts) e = absurd (cc)

-- so is a cut by rounding, whose parts are still to come
pub same_round : (divisor count : ℕ) (cut : CutShape) → RoundLine divisor count ≡ cut_first cut → (parts : List Part) × (cut ≡ RoundCut divisor parts) × (length parts ≡ count)
same_round divisor count (LsCut item last chosen) e = absurd (cc)
same_round divisor count (PriceCut item lists) e = absurd (cc)
same_round divisor count (BlockCut item lists) e = absurd (cc)
same_round divisor count (RoundCut q parts) e =
    let one : divisor ≡ q = cc in
    let two : count ≡ length parts = cc in
    (parts, ap (λ n. RoundCut n parts) (sym one), sym two)

cut_takes : (cut : CutShape) → Takes a_cut (cut_first cut)
cut_takes (LsCut item last chosen) = tt
cut_takes (PriceCut item lists) = tt
cut_takes (BlockCut item lists) = tt
cut_takes (RoundCut divisor parts) = tt

-- no other line begins a cut
pub other_cut : (l : CertLine) (cut : CutShape) → ((c : Cut) → l ≢ line.Cut c) → ((divisor parts : ℕ) → l ≢ line.Round divisor parts) → line_shape l ≡ cut_first cut → ⊥
other_cut l cut no_cut no_round e = not_cut l no_cut no_round (subst (Takes a_cut) (sym e) (cut_takes cut))

-- ---- the first node of a tree
-- its line, and the lines after it
pub tree_first : TreeShape → LineShape
tree_first (Split c n low high) = BranchLine c n
tree_first (End l) = leaf_first l

pub tree_rest : TreeShape → Values
tree_rest (Split c n low high) = tree_values low ++ tree_values high
tree_rest (End l) = reduced_values (leaf_parts l) (leaf_lists l) (leaf_groups l)

pub tree_lines : (t : TreeShape) → tree_values t ≡ tree_first t ∷ tree_rest t
unfolding tree_first tree_rest
tree_lines (Split c n low high) = refl
tree_lines (End l) = refl

leaf_takes : (l : LeafShape) → Takes (a_tree 0) (leaf_first l)
leaf_takes (LinearLeaf den parts) = tt
leaf_takes (FarkasLeaf parts) = tt
leaf_takes PointLeaf = tt
leaf_takes (ReducedLeaf den parts lists groups) = tt

tree_takes : (t : TreeShape) → Takes (a_tree 0) (tree_first t)
unfolding tree_first
tree_takes (Split c n low high) = tt
tree_takes (End l) = leaf_takes l

pub other_tree : (l : CertLine) (t : TreeShape) → ((column : Column) (at : ℕ) → l ≢ line.Branch column at) → ((den : ℤ) (parts : ℕ) → l ≢ line.Linear den parts) → ((parts : ℕ) → l ≢ line.Farkas parts) → l ≢ line.Point → ((den parts lists groups : ℕ) → l ≢ line.Reduced den parts lists groups) → line_shape l ≡ tree_first t → ⊥
other_tree l t branch linear farkas point reduced e = not_tree l 0 branch linear farkas point reduced (subst (Takes (a_tree 0)) (sym e) (tree_takes t))

-- a branch
pub same_branch : (column : Column) (at : ℕ) (t : TreeShape) → BranchLine column at ≡ tree_first t → IsFirstOf (node.Branch column at) t (tree_rest t)
unfolding tree_first tree_rest
same_branch column at (Split c n low high) e = (cc, cc, refl)
same_branch column at (End (LinearLeaf den parts)) e = cc
same_branch column at (End (FarkasLeaf parts)) e = cc
same_branch column at (End PointLeaf) e = cc
same_branch column at (End (ReducedLeaf den parts lists groups)) e = cc

-- leaves, whose parts are still to come
pub same_linear : (den : ℤ) (count : ℕ) (t : TreeShape) → LinearLine den count ≡ tree_first t → (parts : List Part) × (t ≡ End (LinearLeaf den parts)) × (length parts ≡ count) × (tree_rest t ≡ part_values parts)
unfolding tree_first tree_rest
same_linear den count (Split c n low high) e = absurd (cc)
same_linear den count (End (LinearLeaf other parts)) e =
    let one : den ≡ other = cc in
    let two : count ≡ length parts = cc in
    (parts, ap (λ z. End (LinearLeaf z parts)) (sym one), sym two, append-nil (part_values parts))
same_linear den count (End (FarkasLeaf parts)) e = absurd (cc)
same_linear den count (End PointLeaf) e = absurd (cc)
same_linear den count (End (ReducedLeaf other parts lists groups)) e = absurd (cc)

pub same_farkas : (count : ℕ) (t : TreeShape) → FarkasLine count ≡ tree_first t → (parts : List Part) × (t ≡ End (FarkasLeaf parts)) × (length parts ≡ count) × (tree_rest t ≡ part_values parts)
unfolding tree_first tree_rest
same_farkas count (Split c n low high) e = absurd (cc)
same_farkas count (End (LinearLeaf den parts)) e = absurd (cc)
same_farkas count (End (FarkasLeaf parts)) e =
    let two : count ≡ length parts = cc in
    (parts, refl, sym two, append-nil (part_values parts))
same_farkas count (End PointLeaf) e = absurd (cc)
same_farkas count (End (ReducedLeaf den parts lists groups)) e = absurd (cc)

pub same_point : (t : TreeShape) → PointLine ≡ tree_first t → (t ≡ End PointLeaf) × (tree_rest t ≡ [])
unfolding tree_first tree_rest
same_point (Split c n low high) e = absurd (cc)
same_point (End (LinearLeaf den parts)) e = absurd (cc)
same_point (End (FarkasLeaf parts)) e = absurd (cc)
same_point (End PointLeaf) e = (refl, refl)
same_point (End (ReducedLeaf den parts lists groups)) e = absurd (cc)

-- a leaf over reduced costs, whose parts, lists and groups are still to come
pub record IsReducedTree (den part_count list_count group_count : ℕ) (t : TreeShape) : Type 0 where
  pub parts : List Part
  pub lists : List ListShape
  pub groups : List Group
  pub tree : t ≡ End (ReducedLeaf den parts lists groups)
  pub parts_are : length parts ≡ part_count
  pub lists_are : length lists ≡ list_count
  pub groups_are : length groups ≡ group_count
  pub rest : tree_rest t ≡ reduced_values parts lists groups

pub same_reduced : (den part_count list_count group_count : ℕ) (t : TreeShape) → ReducedLine den part_count list_count group_count ≡ tree_first t → IsReducedTree den part_count list_count group_count t
unfolding tree_first tree_rest
same_reduced den part_count list_count group_count (Split c n low high) e = absurd (cc)
same_reduced den part_count list_count group_count (End (LinearLeaf other parts)) e = absurd (cc)
same_reduced den part_count list_count group_count (End (FarkasLeaf parts)) e = absurd (cc)
same_reduced den part_count list_count group_count (End PointLeaf) e = absurd (cc)
same_reduced den part_count list_count group_count (End (ReducedLeaf other parts lists groups)) e =
    let one : den ≡ other = cc in
    let two : part_count ≡ length parts = cc in
    let three : list_count ≡ length lists = cc in
    let four : group_count ≡ length groups = cc in
    record {
      parts = parts;
      lists = lists;
      groups = groups;
      tree = ap (λ z. End (ReducedLeaf z parts lists groups)) (sym one);
      parts_are = sym two;
      lists_are = sym three;
      groups_are = sym four;
      rest = refl;
    }

-- ---- a part
part_takes : (l : CertLine) → ((part : Part) → l ≢ line.Part part) → Takes a_part (line_shape l) → ⊥
part_takes (line.Cut c) other takes = takes
part_takes (line.Round divisor parts) other takes = takes
part_takes (line.Part part) other takes = other part refl
part_takes (line.Branch column at) other takes = takes
part_takes (line.Linear den parts) other takes = takes
part_takes (line.Farkas parts) other takes = takes
part_takes line.Point other takes = takes
part_takes (line.Reduced den parts lists groups) other takes = takes
part_takes (line.List list) other takes = takes
part_takes (line.Group group) other takes = takes
part_takes line.End other takes = takes

pub other_part : (l : CertLine) (part : Part) → ((p : Part) → l ≢ line.Part p) → line_shape l ≡ PartLine part → ⊥
other_part l part other e = part_takes l other (subst (Takes a_part) (sym e) tt)

-- ---- a list of parts
list_takes : (l : CertLine) → ((list : PartList) → l ≢ line.List list) → Takes a_list (line_shape l) → ⊥
list_takes (line.Cut c) other takes = takes
list_takes (line.Round divisor parts) other takes = takes
list_takes (line.Part part) other takes = takes
list_takes (line.Branch column at) other takes = takes
list_takes (line.Linear den parts) other takes = takes
list_takes (line.Farkas parts) other takes = takes
list_takes line.Point other takes = takes
list_takes (line.Reduced den parts lists groups) other takes = takes
list_takes (line.List list) other takes = other list refl
list_takes (line.Group group) other takes = takes
list_takes line.End other takes = takes

pub other_list : (l : CertLine) (list : ListShape) → ((a : PartList) → l ≢ line.List a) → line_shape l ≡ ListLine list → ⊥
other_list l list other e = list_takes l other (subst (Takes a_list) (sym e) tt)

-- ---- a group
group_takes : (l : CertLine) → ((group : Group) → l ≢ line.Group group) → Takes a_group (line_shape l) → ⊥
group_takes (line.Cut c) other takes = takes
group_takes (line.Round divisor parts) other takes = takes
group_takes (line.Part part) other takes = takes
group_takes (line.Branch column at) other takes = takes
group_takes (line.Linear den parts) other takes = takes
group_takes (line.Farkas parts) other takes = takes
group_takes line.Point other takes = takes
group_takes (line.Reduced den parts lists groups) other takes = takes
group_takes (line.List list) other takes = takes
group_takes (line.Group group) other takes = other group refl
group_takes line.End other takes = takes

pub other_group : (l : CertLine) (group : Group) → ((g : Group) → l ≢ line.Group g) → line_shape l ≡ GroupLine group → ⊥
other_group l group other e = group_takes l other (subst (Takes a_group) (sym e) tt)

-- ---- the end
pub other_end : (l : CertLine) → l ≢ line.End → line_shape l ≡ EndLine → ⊥
other_end l other e = not_end l other (subst (Takes the_end) (sym e) tt)

-- a line has bytes
pub some_bytes : (l : LineShape) (rest : List ℕ) → value_text l ++ rest ≡ [] → ⊥
some_bytes l rest e = omega (arith, ap length e, length-append (value_text l) rest, length-append (later_line l) (codes "\n"))

-- a leaf, all of whose lines were read
pub whole_leaf : (l : Leaf) (t : TreeShape) (s : LeafShape) → t ≡ End s → leaf_shape l ≡ s → IsFirstOf (node.Leaf l) t []
whole_leaf l t s is same = subst (λ x. IsFirstOf (node.Leaf l) x []) (sym is) (same, refl)
