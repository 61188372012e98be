-- What holds of the leaves of a tree that was sought holds of those of a certificate's tree.
use Rattle.std.proofs.Common.{◌≤◌, ◌<◌, ◌+◌, ◌⊎◌, inl, inr, ⊎_elim, ℕ, subst, arith, true, false, List, length}
use Rattle.lot_sizing.specs.Problem.{Problem}
use Rattle.lin_rows.specs.declared.bound.Bound.{Bound}
use Rattle.lin_rows.specs.declared.column.Column.{Column}
use Rattle.cert_lines.specs.declared.limits.TheConstants.{MAX_BRANCHES}
use Rattle.cert_lines.specs.declared.parts.Leaf.{Leaf as LeafValue}
use Rattle.cert_lines.specs.Shapes.{LeafShape, leaf_shape}
use Rattle.certificate.specs.declared.tree.Tree.{Tree}
use Rattle.certificate.specs.declared.tree.Tree.TheVariants as tree
use Rattle.certificate.specs.Shapes.{tree_shape}
use Rattle.cert_trees.specs.Ranges.{Ranges}
use Rattle.cert_trees.specs.Spans.{Span}
use Rattle.cert_trees.specs.Trees as split
use Rattle.tree_search.specs.declared.node.Range.{Range}
use Rattle.tree_search.specs.declared.proposal.Proposal.{Proposal}
use Rattle.tree_search.specs.declared.sought.Sought.{Sought}
use Rattle.tree_search.specs.declared.sought.Sought.TheVariants.{Branch', Leaf}
use Rattle.tree_search.specs.Counts.{longest}
use Rattle.tree_search.specs.Ranges.{IsSplitAt, high_side, low_side}
use Rattle.tree_search.specs.Stripped.{IsStripped}
use Rattle.tree_search.specs.Trees.{AtLeaf, EachLeaf, IsSplitTree, SomeLeaf, high_path, low_path}
use Rattle.tree_search.proofs.Trees.{low_path-length as low_length, high_path-length as high_length}
use Rattle.node_domains.specs.Nodes.{IsNodeOf, choice_place}
use Rattle.branching.specs.Search as shown
use Rattle.node_domains.specs.Numbering.{choice_from}
use Rattle.node_domains.specs.Sides.{node_side}

-- what holds of a leaf of a certificate, and the path to it
abbrev pub OnPath : Type 1
OnPath = List Bound → LeafShape → Type 0

-- two things that hold of each leaf hold of it together
pub each_two : (place : Column → ℕ) (P Q : AtLeaf) (rs : List Range) (path : List Bound) (sought : Sought) → EachLeaf place P rs path sought → EachLeaf place Q rs path sought → EachLeaf place (λ rs path p. P rs path p × Q rs path p) rs path sought
each_two place P Q rs path (Branch' c spot at p low q high) a b = (
  each_two place P Q (low_side rs (place c) at) (low_path path c at) low a.0 b.0,
  each_two place P Q (high_side rs (place c) at) (high_path path c at) high a.1 b.1,
)
each_two place P Q rs path (Leaf p) a b = (a, b)

module _ (m : Problem) (ranges : Ranges) where
  -- a branch of the list splits what the path leaves to a choice
  splits : (rs : List Range) (path : List Bound) (c : Column) (at : ℕ) → IsNodeOf m ranges rs path → IsSplitAt rs (choice_place m c) at → split.IsSplit m ranges path c at
  splits rs path c at node is =
      let choice = choice_from m c (omega (arith, is.0, node.size)) in
      record {
        column = choice;
        low = subst (λ (s : Span). s.low ≤ at) (node.left c choice) is.1;
        high = subst (λ (s : Span). at < s.high) (node.left c choice) is.2;
      }

  low_node : (rs : List Range) (path : List Bound) (c : Column) (at : ℕ) → IsNodeOf m ranges rs path → IsSplitAt rs (choice_place m c) at → IsNodeOf m ranges (low_side rs (choice_place m c) at) (low_path path c at)
  low_node rs path c at node is = node_side m ranges true rs path c at node is

  high_node : (rs : List Range) (path : List Bound) (c : Column) (at : ℕ) → IsNodeOf m ranges rs path → IsSplitAt rs (choice_place m c) at → IsNodeOf m ranges (high_side rs (choice_place m c) at) (high_path path c at)
  high_node rs path c at node is = node_side m ranges false rs path c at node is

  -- the branches of the certificate's tree split
  pub split_tree : (rs : List Range) (path : List Bound) (sought : Sought) (t : Tree) → IsNodeOf m ranges rs path → IsSplitTree (choice_place m) rs sought → IsStripped sought t → split.IsSplitTree m ranges path (tree_shape t)
  split_tree rs path (Branch' c spot at p low q high) (tree.Branch' column number s left u right) node is same =
      let F : Column → ℕ → Type 0 = λ d n. split.IsSplit m ranges path d n × split.IsSplitTree m ranges (split.low_path path d n) (tree_shape left) × split.IsSplitTree m ranges (split.high_path path d n) (tree_shape right) in
      let here : F c at = (
        splits rs path c at node is.0,
        split_tree (low_side rs (choice_place m c) at) (low_path path c at) low left (low_node rs path c at node is.0) is.1 same.2,
        split_tree (high_side rs (choice_place m c) at) (high_path path c at) high right (high_node rs path c at node is.0) is.2 same.3,
      ) in
      subst (λ n. F column n) same.1 (subst (λ d. F d at) same.0 here)
  split_tree rs path (Branch' c spot at p low q high) (tree.Leaf leaf) node is same = absurd same
  split_tree rs path (Leaf p) (tree.Branch' column number s left u right) node is same = absurd same
  split_tree rs path (Leaf p) (tree.Leaf leaf) node is same = tt

  -- what follows at each leaf, whose path has no more branches than it may
  pub each_on : (P : AtLeaf) (Q : OnPath) → ((rs : List Range) (path : List Bound) (p : Proposal) → IsNodeOf m ranges rs path → length path ≤ MAX_BRANCHES → P rs path p → Q path (leaf_shape p.leaf)) → (rs : List Range) (path : List Bound) (sought : Sought) (t : Tree) → IsNodeOf m ranges rs path → length path + longest sought ≤ MAX_BRANCHES → IsSplitTree (choice_place m) rs sought → IsStripped sought t → EachLeaf (choice_place m) P rs path sought → split.EachLeaf Q path (tree_shape t)
  each_on P Q f rs path (Branch' c spot at p low q high) (tree.Branch' column number s left u right) node short is same each =
      let F : Column → ℕ → Type 0 = λ d n. split.EachLeaf Q (split.low_path path d n) (tree_shape left) × split.EachLeaf Q (split.high_path path d n) (tree_shape right) in
      let here : F c at = (
        each_on P Q f (low_side rs (choice_place m c) at) (low_path path c at) low left (low_node rs path c at node is.0) (omega (arith, short, low_length path c at)) is.1 same.2 each.0,
        each_on P Q f (high_side rs (choice_place m c) at) (high_path path c at) high right (high_node rs path c at node is.0) (omega (arith, short, high_length path c at)) is.2 same.3 each.1,
      ) in
      subst (λ n. F column n) same.1 (subst (λ d. F d at) same.0 here)
  each_on P Q f rs path (Branch' c spot at p low q high) (tree.Leaf leaf) node short is same each = absurd same
  each_on P Q f rs path (Leaf p) (tree.Branch' column number s left u right) node short is same each = absurd same
  each_on P Q f rs path (Leaf p) (tree.Leaf leaf) node short is same each =
      subst (λ (l : LeafValue). Q path (leaf_shape l)) same (f rs path p node (omega (arith, short)) each)

  -- and at some leaf
  pub some_on : (P R : AtLeaf) (Q : OnPath) → ((rs : List Range) (path : List Bound) (p : Proposal) → P rs path p → R rs path p → Q path (leaf_shape p.leaf)) → (rs : List Range) (path : List Bound) (sought : Sought) (t : Tree) → IsStripped sought t → EachLeaf (choice_place m) P rs path sought → SomeLeaf (choice_place m) R rs path sought → shown.SomeLeaf Q path (tree_shape t)
  some_on P R Q f rs path (Branch' c spot at p low q high) (tree.Branch' column number s left u right) same each some =
      let F : Column → ℕ → Type 0 = λ d n. shown.SomeLeaf Q (split.low_path path d n) (tree_shape left) ⊎ shown.SomeLeaf Q (split.high_path path d n) (tree_shape right) in
      let here : F c at = ⊎_elim
      (λ first. inl (some_on P R Q f (low_side rs (choice_place m c) at) (low_path path c at) low left same.2 each.0 first))
      (λ next. inr (some_on P R Q f (high_side rs (choice_place m c) at) (high_path path c at) high right same.3 each.1 next))
      some in
      subst (λ n. F column n) same.1 (subst (λ d. F d at) same.0 here)
  some_on P R Q f rs path (Branch' c spot at p low q high) (tree.Leaf leaf) same each some = absurd same
  some_on P R Q f rs path (Leaf p) (tree.Branch' column number s left u right) same each some = absurd same
  some_on P R Q f rs path (Leaf p) (tree.Leaf leaf) same each some = subst (λ (l : LeafValue). Q path (leaf_shape l)) same (f rs path p each some)
