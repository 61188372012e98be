-- Lines that run as they are needed are those of a certificate.
use Rattle.std.proofs.Common.{◌≡◌, ◌≤◌, ◌+◌, ◌∙◌, ℕ, zero, suc, refl, sym, ap, subst, arith, List, [], ◌∷◌, ◌++◌, append_assoc, append-nil, length}
use Rattle.std.specs.Prelude.{replicate}
use Rattle.std.proofs.lemmas.List.{length-append}
use Rattle.cert_lines.specs.declared.limits.TheConstants.{MAX_BRANCHES}
use Rattle.cert_lines.specs.declared.parts.Part.{Part}
use Rattle.item_groups.specs.declared.group.Group.{Group}
use Rattle.cert_lines.specs.Shapes.{BlockCut, BranchLine, CutLine, CutShape, EndLine, FarkasLeaf, FarkasLine, GroupLine, LinearLeaf, LinearLine, ListLine, ListShape, LsCut, PartLine, PointLeaf, PointLine, PriceCut, ReducedLeaf, ReducedLine, RoundCut, RoundLine}
use Rattle.certificate.specs.Shapes.{End, Split, TreeShape}
use Rattle.certificate.specs.Counts.{longest_path}
use Rattle.certificate.specs.Values.{AreLines, Values, all_cut_values, cut_values, group_values, list_values, part_values, tree_values}
use Rattle.certificate.specs.Dues.{Due, TakesAll, a_cut, a_group, a_list, a_part, a_tree, after, the_end}
use Rattle.certificate.specs.Faults.{body_dues}
use Rattle.certificate.proofs.Shorts.{lines_split}
use Rattle.cert_stream.specs.Laws.{IsBody}

-- lines that meet some needs and then others are those of the first, and then those of the others
record AreSplit (xs ys : List Due) (ls : Values) : Type 0 where
  first : Values
  later : Values
  is : ls ≡ first ++ later
  first_taken : TakesAll xs first []
  later_taken : TakesAll ys later []

taken_split : (xs ys : List Due) (ls : Values) → TakesAll (xs ++ ys) ls [] → AreSplit xs ys ls
taken_split [] ys ls taken = record { first = []; later = ls; is = refl; first_taken = refl; later_taken = taken }
taken_split (x ∷ xs) ys [] taken = absurd (cc taken)
taken_split (x ∷ xs) ys (l ∷ ls) taken =
    let rest = taken_split (after x l ++ xs) ys ls (subst (λ ns. TakesAll ns ls []) (sym (append_assoc (after x l) xs ys)) taken.2) in
    record {
      first = l ∷ rest.first;
      later = rest.later;
      is = ap (λ t. l ∷ t) rest.is;
      first_taken = (taken.0, taken.1, rest.first_taken);
      later_taken = rest.later_taken;
    }

no_lines : (ls : Values) → TakesAll [] ls [] → ls ≡ []
no_lines [] taken = refl
no_lines (l ∷ ls) taken = absurd taken

-- the lines of so many parts
record AreParts (count : ℕ) (ls : Values) : Type 0 where
  parts : List Part
  count_is : length parts ≡ count
  values : ls ≡ part_values parts

parts_of : (count : ℕ) (ls : Values) → TakesAll (replicate count a_part) ls [] → AreParts count ls
parts_of zero ls taken = record { parts = []; count_is = refl; values = no_lines ls taken }
parts_of (suc count) [] taken = absurd (cc taken)
parts_of (suc count) (PartLine part ∷ ls) taken =
    let rest = parts_of count ls taken.2 in
    record { parts = part ∷ rest.parts; count_is = ap suc rest.count_is; values = ap (λ t. PartLine part ∷ t) rest.values }
parts_of (suc count) (_ ∷ ls) taken = absurd taken.0

-- the lines of so many lists of parts
record AreLists (count : ℕ) (ls : Values) : Type 0 where
  lists : List ListShape
  count_is : length lists ≡ count
  values : ls ≡ list_values lists

lists_of : (count : ℕ) (ls : Values) → TakesAll (replicate count a_list) ls [] → AreLists count ls
lists_of zero ls taken = record { lists = []; count_is = refl; values = no_lines ls taken }
lists_of (suc count) [] taken = absurd (cc taken)
lists_of (suc count) (ListLine list ∷ ls) taken =
    let rest = lists_of count ls taken.2 in
    record { lists = list ∷ rest.lists; count_is = ap suc rest.count_is; values = ap (λ t. ListLine list ∷ t) rest.values }
lists_of (suc count) (_ ∷ ls) taken = absurd taken.0

-- the lines of so many groups
record AreGroups (count : ℕ) (ls : Values) : Type 0 where
  groups : List Group
  count_is : length groups ≡ count
  values : ls ≡ group_values groups

groups_of : (count : ℕ) (ls : Values) → TakesAll (replicate count a_group) ls [] → AreGroups count ls
groups_of zero ls taken = record { groups = []; count_is = refl; values = no_lines ls taken }
groups_of (suc count) [] taken = absurd (cc taken)
groups_of (suc count) (GroupLine group ∷ ls) taken =
    let rest = groups_of count ls taken.2 in
    record { groups = group ∷ rest.groups; count_is = ap suc rest.count_is; values = ap (λ t. GroupLine group ∷ t) rest.values }
groups_of (suc count) (_ ∷ ls) taken = absurd taken.0

-- the lines of so many parts, lists and groups, one after the other
record AreReduced (part_count list_count group_count : ℕ) (ls : Values) : Type 0 where
  parts : List Part
  lists : List ListShape
  groups : List Group
  parts_are : length parts ≡ part_count
  lists_are : length lists ≡ list_count
  groups_are : length groups ≡ group_count
  values : ls ≡ part_values parts ++ (list_values lists ++ group_values groups)

reduced_of : (part_count list_count group_count : ℕ) (ls : Values) → TakesAll (replicate part_count a_part ++ (replicate list_count a_list ++ replicate group_count a_group)) ls [] → AreReduced part_count list_count group_count ls
reduced_of part_count list_count group_count ls taken =
    let one = taken_split (replicate part_count a_part) (replicate list_count a_list ++ replicate group_count a_group) ls taken in
    let two = taken_split (replicate list_count a_list) (replicate group_count a_group) one.later one.later_taken in
    let parts = parts_of part_count one.first one.first_taken in
    let lists = lists_of list_count two.first two.first_taken in
    let groups = groups_of group_count two.later two.later_taken in
    record {
      parts = parts.parts;
      lists = lists.lists;
      groups = groups.groups;
      parts_are = parts.count_is;
      lists_are = lists.count_is;
      groups_are = groups.count_is;
      values = one.is ∙ ap (λ t. t ++ one.later) parts.values ∙ ap (λ t. part_values parts.parts ++ t) (two.is ∙ ap (λ t. t ++ two.later) lists.values ∙ ap (λ t. list_values lists.lists ++ t) groups.values);
    }

-- the needs after a line stand alone
alone : (dues : List Due) (ls : Values) → TakesAll (dues ++ []) ls [] → TakesAll dues ls []
alone dues ls taken = subst (λ ns. TakesAll ns ls []) (append-nil dues) taken

-- the lines of a cut
record IsCut (ls : Values) : Type 0 where
  cut : CutShape
  values : ls ≡ cut_values cut

cut_of : (version : ℕ) (ls : Values) → AreLines version ls → TakesAll (a_cut ∷ []) ls [] → IsCut ls
cut_of version [] lines taken = absurd (cc taken)
cut_of version (CutLine (LsCut item last chosen) ∷ ls) lines taken = record { cut = LsCut item last chosen; values = ap (λ t. CutLine (LsCut item last chosen) ∷ t) (no_lines ls taken.2) }
cut_of version (CutLine (PriceCut item lists) ∷ ls) lines taken = record { cut = PriceCut item lists; values = ap (λ t. CutLine (PriceCut item lists) ∷ t) (no_lines ls taken.2) }
cut_of version (CutLine (BlockCut item lists) ∷ ls) lines taken = record { cut = BlockCut item lists; values = ap (λ t. CutLine (BlockCut item lists) ∷ t) (no_lines ls taken.2) }
cut_of version (CutLine (RoundCut divisor parts) ∷ ls) lines taken = absurd lines.0.form.small
cut_of version (RoundLine divisor count ∷ ls) lines taken =
    let rest = parts_of count ls (alone (replicate count a_part) ls taken.2) in
    record { cut = RoundCut divisor rest.parts; values = ap (λ t. RoundLine divisor count ∷ t) rest.values ∙ ap (λ n. RoundLine divisor n ∷ part_values rest.parts) (sym rest.count_is) }
cut_of version (_ ∷ ls) lines taken = absurd taken.0

-- the lines of so many cuts
record AreCuts (count : ℕ) (ls : Values) : Type 0 where
  cuts : List CutShape
  count_is : length cuts ≡ count
  values : ls ≡ all_cut_values cuts

cuts_of : (version count : ℕ) (ls : Values) → AreLines version ls → TakesAll (replicate count a_cut) ls [] → AreCuts count ls
cuts_of version zero ls lines taken = record { cuts = []; count_is = refl; values = no_lines ls taken }
cuts_of version (suc count) ls lines taken =
    let split = taken_split (a_cut ∷ []) (replicate count a_cut) ls taken in
    let apart = lines_split version split.first split.later (subst (AreLines version) split.is lines) in
    let one = cut_of version split.first apart.0 split.first_taken in
    let rest = cuts_of version count split.later apart.1 split.later_taken in
    record {
      cuts = one.cut ∷ rest.cuts;
      count_is = ap suc rest.count_is;
      values = split.is ∙ ap (λ t. t ++ split.later) one.values ∙ ap (λ t. cut_values one.cut ++ t) rest.values;
    }

-- the lines of a tree with so many branches above it
record IsTree (above : ℕ) (ls : Values) : Type 0 where
  tree : TreeShape
  values : ls ≡ tree_values tree
  paths : above + longest_path tree ≤ MAX_BRANCHES

tree_of : (most above : ℕ) (ls : Values) → length ls ≤ most → above ≤ MAX_BRANCHES → TakesAll (a_tree above ∷ []) ls [] → IsTree above ls
tree_of most above [] short high taken = absurd (cc taken)
tree_of zero above (l ∷ ls) short high taken = absurd (omega (arith, short))
tree_of (suc most) above (BranchLine column at ∷ ls) short high taken =
    let next = a_tree (above + 1) in
    let split = taken_split (next ∷ []) (next ∷ []) ls taken.2 in
    let both : length ls ≡ length split.first + length split.later = ap length split.is ∙ length-append split.first split.later in
    let room : above + 1 ≤ MAX_BRANCHES = omega (arith, taken.1) in
    let low = tree_of most (above + 1) split.first (omega (arith, short, both)) room split.first_taken in
    let high_side = tree_of most (above + 1) split.later (omega (arith, short, both)) room split.later_taken in
    record {
      tree = Split column at low.tree high_side.tree;
      values = ap (λ t. BranchLine column at ∷ t) (split.is ∙ ap (λ t. t ++ split.later) low.values ∙ ap (λ t. tree_values low.tree ++ t) high_side.values);
      paths = omega (arith, low.paths, high_side.paths);
    }
tree_of (suc most) above (LinearLine den count ∷ ls) short high taken =
    let rest = parts_of count ls (alone (replicate count a_part) ls taken.2) in
    record { tree = End (LinearLeaf den rest.parts); values = ap (λ t. LinearLine den count ∷ t) (rest.values ∙ sym (append-nil (part_values rest.parts))) ∙ ap (λ n. LinearLine den n ∷ (part_values rest.parts ++ [])) (sym rest.count_is); paths = omega (arith, high) }
tree_of (suc most) above (FarkasLine count ∷ ls) short high taken =
    let rest = parts_of count ls (alone (replicate count a_part) ls taken.2) in
    record { tree = End (FarkasLeaf rest.parts); values = ap (λ t. FarkasLine count ∷ t) (rest.values ∙ sym (append-nil (part_values rest.parts))) ∙ ap (λ n. FarkasLine n ∷ (part_values rest.parts ++ [])) (sym rest.count_is); paths = omega (arith, high) }
tree_of (suc most) above (PointLine ∷ ls) short high taken = record { tree = End PointLeaf; values = ap (λ t. PointLine ∷ t) (no_lines ls taken.2); paths = omega (arith, high) }
tree_of (suc most) above (ReducedLine den part_count list_count group_count ∷ ls) short high taken =
    let rest = reduced_of part_count list_count group_count ls (alone (replicate part_count a_part ++ (replicate list_count a_list ++ replicate group_count a_group)) ls taken.2) in
    let lines = part_values rest.parts ++ (list_values rest.lists ++ group_values rest.groups) in
    let counts : ReducedLine den part_count list_count group_count ≡ ReducedLine den (length rest.parts) (length rest.lists) (length rest.groups) =
    ap (λ n. ReducedLine den n list_count group_count) (sym rest.parts_are) ∙ ap (λ n. ReducedLine den (length rest.parts) n group_count) (sym rest.lists_are) ∙ ap (λ n. ReducedLine den (length rest.parts) (length rest.lists) n) (sym rest.groups_are) in
    record { tree = End (ReducedLeaf den rest.parts rest.lists rest.groups); values = ap (λ t. ReducedLine den part_count list_count group_count ∷ t) rest.values ∙ ap (λ l. l ∷ lines) counts; paths = omega (arith, high) }
tree_of (suc most) above (_ ∷ ls) short high taken = absurd taken.0

end_of : (ls : Values) → TakesAll (the_end ∷ []) ls [] → ls ≡ EndLine ∷ []
end_of [] taken = absurd (cc taken)
end_of (EndLine ∷ ls) taken = ap (λ t. EndLine ∷ t) (no_lines ls taken.2)
end_of (_ ∷ ls) taken = absurd taken.0

pub body_of : (version count : ℕ) (ls : Values) → AreLines version ls → TakesAll (body_dues count) ls [] → IsBody count ls
body_of version count ls lines taken =
    let split = taken_split (replicate count a_cut) (a_tree 0 ∷ the_end ∷ []) ls taken in
    let apart = lines_split version split.first split.later (subst (AreLines version) split.is lines) in
    let cuts = cuts_of version count split.first apart.0 split.first_taken in
    let ends = taken_split (a_tree 0 ∷ []) (the_end ∷ []) split.later split.later_taken in
    let tree = tree_of (length ends.first) 0 ends.first (omega arith) (omega arith) ends.first_taken in
    let last = end_of ends.later ends.later_taken in
    record {
      cuts = cuts.cuts;
      tree = tree.tree;
      count_is = cuts.count_is;
      values = split.is ∙ ap (λ t. t ++ split.later) cuts.values ∙ ap (λ t. all_cut_values cuts.cuts ++ t) (ends.is ∙ ap (λ t. t ++ ends.later) tree.values ∙ ap (λ t. tree_values tree.tree ++ t) last);
      paths = omega (arith, tree.paths);
    }
