-- One node of a certificate's tree: what is left of the tree after it, or why it is refused.
use Rattle.std.proofs.Common.{◌≡◌, ◌≤◌, ◌+◌, ◌∙◌, ⊎_elim, ℕ, sym, ap, subst, arith, true, List, [], ◌∷◌, ◌++◌, length}
use Rattle.lot_io.specs.Outside.{Shelved}
use Rattle.lot_sizing.specs.Problem.{Problem}
use Rattle.lin_rows.specs.declared.bound.Bound.{Bound}
use Rattle.lin_rows.specs.declared.column.Column.{Column}
use Rattle.lin_rows.specs.Rows.{LinRow}
use Rattle.cert_lines.specs.declared.limits.TheConstants.{MAX_BRANCHES}
use Rattle.cert_lines.specs.declared.parts.Claim.{Claim}
use Rattle.cert_lines.specs.declared.parts.Leaf.{Leaf}
use Rattle.cert_lines.specs.Shapes.{EndLine, leaf_shape}
use Rattle.certificate.specs.Counts.{longest_path}
use Rattle.certificate.specs.Shapes.{End, Split, TreeShape}
use Rattle.certificate.specs.Values.{Values, leaf_values, tree_values}
use Rattle.cert_trees.specs.Ranges.{WithTotals}
use Rattle.cert_trees.specs.Trees.{low_path}
use Rattle.cert_checker.specs.declared.fault.Why.TheVariants as why
use Rattle.cert_checker.specs.Checks.{IsGoodLeaf, IsGoodTree, IsTreeFault, ground}
use Rattle.cert_stream.specs.declared.lines.LineReader.{LineReader}
use Rattle.stream_check.specs.declared.fault.StreamFault.{StreamFault}
use Rattle.stream_check.specs.declared.fault.StreamFault.TheVariants as stream
use Rattle.stream_check.specs.declared.units.Node.{Node}
use Rattle.stream_check.specs.declared.units.Node.TheVariants as node
use Rattle.stream_check.specs.Nodes.{AreLeft, AreShort, Decide, IsBranchStop, IsFirstOf, IsLeafStop, Splits, later, trees_due, node_values, trees_values}
use Rattle.stream_check.specs.Passes.{Awaits, IsRefusal}
use Rattle.stream_check.proofs.Forest.{decide_leaf, decide_node, decide_range, decide_sides, lines_first, lines_sides, short_branch, short_sides}
use Rattle.stream_check.proofs.Stack.{needed_sides}
use Rattle.stream_check.proofs.Ways.{awaits_same}

-- ---- the tree of a first node
first_branch : (t : TreeShape) (column : Column) (at : ℕ) (more : Values) → IsFirstOf (node.Branch column at) t more → (low : TreeShape) × (high : TreeShape) × (t ≡ Split column at low high) × (more ≡ tree_values low ++ tree_values high)
first_branch (Split c n low high) column at more is = (low, high, ap (λ x. Split x n low high) (sym is.0) ∙ ap (λ k. Split column k low high) (sym is.1), is.2)
first_branch (End l) column at more is = absurd is

first_leaf : (t : TreeShape) (leaf : Leaf) (more : Values) → IsFirstOf (node.Leaf leaf) t more → (t ≡ End (leaf_shape leaf)) × (more ≡ [])
first_leaf (Split c n low high) leaf more is = absurd is
first_leaf (End l) leaf more is = (ap (λ x. End x) (sym is.0), is.1)

-- the next node is the first of a tree that is needed
pub record IsNodeLeft (m : Problem) (rows : List LinRow) (claim : Claim) (whole : TreeShape) (first : ℕ) (path : List Bound) (version : ℕ) (shelf : Shelved) (name : List ℕ) (r : LineReader) (line : ℕ) (n : Node) : Type 0 where
  pub tree : TreeShape
  pub trees : List TreeShape
  pub more : Values
  pub short : AreShort (path ∷ later path) (tree ∷ trees)
  pub decide : Decide m rows claim whole first (path ∷ later path) (tree ∷ trees) line
  pub first_of : IsFirstOf n tree more
  pub awaits : Awaits shelf name r version (more ++ (trees_values trees ++ EndLine ∷ []))

module _ (m : Problem) (rows : List LinRow) (claim : Claim) (whole : TreeShape) (first : ℕ) (path : List Bound) (version : ℕ) (name : List ℕ) (old new : Shelved) (a b : LineReader) (n : Node) where
  left_trees : (trees : List TreeShape) → AreShort (path ∷ later path) trees → Awaits old name a version (trees_values trees ++ EndLine ∷ []) → Decide m rows claim whole first (path ∷ later path) trees a.number
      → ((t : TreeShape) (ls : Values) → Awaits old name a version (tree_values t ++ ls) → (more : Values) × IsFirstOf n t more × Awaits new name b version (more ++ ls))
      → IsNodeLeft m rows claim whole first path version new name b a.number n
  left_trees [] short awaits decide read = absurd short
  left_trees (t ∷ ts) short awaits decide read =
      let (more, first_of, next) = read t (trees_values ts ++ EndLine ∷ []) (awaits_same (lines_first t ts) awaits) in
      record { tree = t; trees = ts; more = more; short = short; decide = decide; first_of = first_of; awaits = next }

  pub node_left : AreLeft m rows claim whole first (trees_due true path) version old name a
      → ((t : TreeShape) (ls : Values) → Awaits old name a version (tree_values t ++ ls) → (more : Values) × IsFirstOf n t more × Awaits new name b version (more ++ ls))
      → IsNodeLeft m rows claim whole first path version new name b a.number n
  node_left left read = left_trees left.trees left.short left.awaits left.decide read

  -- ---- a branch
  pub branch_on : (column : Column) (at : ℕ) (down : List Bound) → n ≡ node.Branch column at → down ≡ low_path path column at → Splits m path column at → b.number ≡ a.number + length (node_values n) → IsNodeLeft m rows claim whole first path version new name b a.number n → AreLeft m rows claim whole first (trees_due true down) version new name b
  branch_on column at down is is_down splits number left =
      let (low, high, whole_is, more_is) = first_branch left.tree column at left.more (subst (λ x. IsFirstOf x left.tree left.more) is left.first_of) in
      let line : b.number ≡ a.number + 1 = number ∙ ap (λ x. a.number + length (node_values x)) is in
      let short : AreShort (path ∷ later path) (Split column at low high ∷ left.trees) = subst (λ t. AreShort (path ∷ later path) (t ∷ left.trees)) whole_is left.short in
      let decide : Decide m rows claim whole first (path ∷ later path) (Split column at low high ∷ left.trees) a.number = subst (λ t. Decide m rows claim whole first (path ∷ later path) (t ∷ left.trees) a.number) whole_is left.decide in
      subst (λ paths. AreLeft m rows claim whole first paths version new name b) (sym (ap (trees_due true) is_down ∙ needed_sides path column at)) (record {
        trees = low ∷ high ∷ left.trees;
        short = short_sides path (later path) column at low high left.trees short;
        awaits = awaits_same (lines_sides low high left.trees left.more more_is) left.awaits;
        decide = decide_sides m rows claim whole first path (later path) left.trees a.number column at low high b.number line splits decide;
      })

  pub branch_off : (column : Column) (at : ℕ) (f : StreamFault) → n ≡ node.Branch column at → IsBranchStop m path column at a.number f → IsNodeLeft m rows claim whole first path version new name b a.number n → IsRefusal (λ line w. WithTotals m (λ total. IsTreeFault (ground m total rows claim) [] whole first line w)) f
  branch_off column at f is stop left =
      let (low, high, whole_is, more_is) = first_branch left.tree column at left.more (subst (λ x. IsFirstOf x left.tree left.more) is left.first_of) in
      let short : AreShort (path ∷ later path) (Split column at low high ∷ left.trees) = subst (λ t. AreShort (path ∷ later path) (t ∷ left.trees)) whole_is left.short in
      let decide : Decide m rows claim whole first (path ∷ later path) (Split column at low high ∷ left.trees) a.number = subst (λ t. Decide m rows claim whole first (path ∷ later path) (t ∷ left.trees) a.number) whole_is left.decide in
      refused f stop low high short decide
    where
      refused : (f : StreamFault) → IsBranchStop m path column at a.number f → (low high : TreeShape) → AreShort (path ∷ later path) (Split column at low high ∷ left.trees) → Decide m rows claim whole first (path ∷ later path) (Split column at low high ∷ left.trees) a.number → IsRefusal (λ line w. WithTotals m (λ total. IsTreeFault (ground m total rows claim) [] whole first line w)) f
      refused stream.Missing stop low high short decide = tt
      refused stream.Failed stop low high short decide = tt
      refused stream.TooLong stop low high short decide = tt
      refused (stream.Text t) stop low high short decide = absurd (omega (arith, stop.1, short_branch path (later path) column at low high left.trees short))
      refused (stream.Rejected r) stop low high short decide = λ total totals.
          let g = ground m total rows claim in
          let fault = decide_range m rows claim whole first path (later path) left.trees a.number column at low high stop.2 decide total totals in
          subst (λ w. IsTreeFault g [] whole first r.line w) (sym stop.1) (subst (λ k. IsTreeFault g [] whole first k why.Range) (sym stop.0) fault)
      refused stream.Memory stop low high short decide = tt

  -- ---- a leaf
  pub leaf_on : (leaf : Leaf) (paths : List (List Bound)) → n ≡ node.Leaf leaf → paths ≡ later path → WithTotals m (λ total. IsGoodLeaf (ground m total rows claim) path (leaf_shape leaf)) → b.number ≡ a.number + length (node_values n) → IsNodeLeft m rows claim whole first path version new name b a.number n → AreLeft m rows claim whole first paths version new name b
  leaf_on leaf paths is is_paths good number left =
      let (whole_is, more_is) = first_leaf left.tree leaf left.more (subst (λ x. IsFirstOf x left.tree left.more) is left.first_of) in
      let line : b.number ≡ a.number + length (leaf_values (leaf_shape leaf)) = number ∙ ap (λ x. a.number + length (node_values x)) is in
      let decide : Decide m rows claim whole first (path ∷ later path) (End (leaf_shape leaf) ∷ left.trees) a.number = subst (λ t. Decide m rows claim whole first (path ∷ later path) (t ∷ left.trees) a.number) whole_is left.decide in
      subst (λ ps. AreLeft m rows claim whole first ps version new name b) (sym is_paths) (record {
        trees = left.trees;
        short = left.short.1;
        awaits = awaits_same (ap (λ ls. ls ++ (trees_values left.trees ++ EndLine ∷ [])) more_is) left.awaits;
        decide = decide_leaf m rows claim whole first path (later path) left.trees a.number (leaf_shape leaf) b.number line good decide;
      })

  pub leaf_off : (leaf : Leaf) (f : StreamFault) → n ≡ node.Leaf leaf → IsLeafStop m rows claim path (leaf_shape leaf) a.number f → IsNodeLeft m rows claim whole first path version new name b a.number n → IsRefusal (λ line w. WithTotals m (λ total. IsTreeFault (ground m total rows claim) [] whole first line w)) f
  leaf_off leaf f is stop left =
      let (whole_is, more_is) = first_leaf left.tree leaf left.more (subst (λ x. IsFirstOf x left.tree left.more) is left.first_of) in
      refused f stop (subst (λ t. Decide m rows claim whole first (path ∷ later path) (t ∷ left.trees) a.number) whole_is left.decide)
    where
      refused : (f : StreamFault) → IsLeafStop m rows claim path (leaf_shape leaf) a.number f → Decide m rows claim whole first (path ∷ later path) (End (leaf_shape leaf) ∷ left.trees) a.number → IsRefusal (λ line w. WithTotals m (λ total. IsTreeFault (ground m total rows claim) [] whole first line w)) f
      refused stream.Missing stop decide = tt
      refused stream.Failed stop decide = tt
      refused stream.TooLong stop decide = tt
      refused (stream.Text t) stop decide = stop
      refused (stream.Rejected r) stop decide = decide_node m rows claim whole first path (later path) left.trees a.number (leaf_shape leaf) r.line r.why stop decide
      refused stream.Memory stop decide = tt

-- ---- the whole tree
-- at first it is left
pub whole_left : (m : Problem) (rows : List LinRow) (claim : Claim) (tree : TreeShape) (version : ℕ) (shelf : Shelved) (name : List ℕ) (r : LineReader) → longest_path tree ≤ MAX_BRANCHES → Awaits shelf name r version (tree_values tree ++ EndLine ∷ []) → AreLeft m rows claim tree r.number (trees_due true []) version shelf name r
whole_left m rows claim tree version shelf name r short awaits = record {
  trees = tree ∷ [];
  short = (omega (arith, short), tt);
  awaits = awaits_same (sym (lines_first tree [])) awaits;
  decide = record {
    good = λ total totals good. good.0;
    fault = λ at w total totals fault. ⊎_elim (λ is. is) (λ none. absurd none.1) fault;
  };
}

-- in the end nothing is
pub none_left : (m : Problem) (rows : List LinRow) (claim : Claim) (tree : TreeShape) (first version : ℕ) (shelf : Shelved) (name : List ℕ) (r : LineReader) → AreLeft m rows claim tree first [] version shelf name r → WithTotals m (λ total. IsGoodTree (ground m total rows claim) [] tree) × Awaits shelf name r version (EndLine ∷ [])
none_left m rows claim tree first version shelf name r left =
    (λ total totals. left.decide.good total totals tt, last left.trees left.short left.awaits)
  where
    last : (trees : List TreeShape) → AreShort [] trees → Awaits shelf name r version (trees_values trees ++ EndLine ∷ []) → Awaits shelf name r version (EndLine ∷ [])
    last [] short awaits = awaits
    last (t ∷ ts) short awaits = absurd short
