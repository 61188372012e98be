-- The trees that are left of a certificate's tree: what is found of their first node is found of the whole.
use Rattle.std.proofs.Common.{◌≡◌, ◌<◌, ◌+◌, ⊎_elim, ◌∙◌, ℕ, refl, inl, inr, ap, subst, arith, List, [], ◌∷◌, ◌++◌, append_assoc, length, length-append}
use Rattle.lot_sizing.specs.Problem.{Problem}
use Rattle.lin_rows.specs.declared.bound.Bound.{Bound}
use Rattle.lin_rows.specs.declared.column.Column.{Column}
use Rattle.lin_rows.specs.Rows.{LinRow}
use Rattle.cert_lines.specs.declared.limits.TheConstants.{MAX_BRANCHES}
use Rattle.cert_lines.specs.declared.parts.Claim.{Claim}
use Rattle.cert_lines.specs.Shapes.{EndLine, LeafShape}
use Rattle.certificate.specs.Shapes.{End, Split, TreeShape}
use Rattle.certificate.specs.Values.{Values, leaf_values, tree_values}
use Rattle.cert_trees.specs.Paths.{at_least, at_most}
use Rattle.cert_trees.specs.Ranges.{WithTotals, whole_ranges}
use Rattle.cert_trees.specs.Trees.{IsSplit, high_path, low_path}
use Rattle.cert_checker.specs.declared.fault.Why.{Why}
use Rattle.cert_checker.specs.declared.fault.Why.TheVariants as why
use Rattle.cert_checker.specs.Checks.{Ground, IsGoodLeaf, IsGoodTree, IsNodeFault, IsTreeFault, ground}
use Rattle.stream_check.specs.Nodes.{AreGoodTrees, AreShort, AreTreesFault, Decide, Splits, trees_values}

-- ---- the trees are good
good_sides : (g : Ground) (path : List Bound) (paths : List (List Bound)) (c : Column) (n : ℕ) (low high : TreeShape) (ts : List TreeShape) → IsSplit g.problem g.ranges path c n → AreGoodTrees g (low_path path c n ∷ high_path path c n ∷ paths) (low ∷ high ∷ ts) → AreGoodTrees g (path ∷ paths) (Split c n low high ∷ ts)
good_sides g path paths c n low high ts is good =
    (record { split = (is, good.0.split, good.1.0.split); leaves = (good.0.leaves, good.1.0.leaves) }, good.1.1)

-- ---- or the first fault is that of the whole
faulty_sides : (g : Ground) (path : List Bound) (paths : List (List Bound)) (c : Column) (n : ℕ) (low high : TreeShape) (ts : List TreeShape) (line at : ℕ) (w : Why) → IsSplit g.problem g.ranges path c n → AreTreesFault g (low_path path c n ∷ high_path path c n ∷ paths) (low ∷ high ∷ ts) (line + 1) at w → AreTreesFault g (path ∷ paths) (Split c n low high ∷ ts) line at w
faulty_sides g path paths c n low high ts line at w is fault =
    ⊎_elim
    (λ (in_low : IsTreeFault g (low_path path c n) low (line + 1) at w). inl (inr (is, inl in_low)))
    (λ (after_low : IsGoodTree g (low_path path c n) low × AreTreesFault g (high_path path c n ∷ paths) (high ∷ ts) (line + 1 + length (tree_values low)) at w).
    ⊎_elim
    (λ (in_high : IsTreeFault g (high_path path c n) high (line + 1 + length (tree_values low)) at w). inl (inr (is, inr (after_low.0, in_high))))
    (λ (after_high : IsGoodTree g (high_path path c n) high × AreTreesFault g paths ts (line + 1 + length (tree_values low) + length (tree_values high)) at w).
    inr (
      record { split = (is, after_low.0.split, after_high.0.split); leaves = (after_low.0.leaves, after_high.0.leaves) },
      subst (λ k. AreTreesFault g paths ts k at w) (omega (arith, length-append (tree_values low) (tree_values high))) after_high.1,
    ))
    after_low.1)
    fault

module _ (m : Problem) (rows : List LinRow) (claim : Claim) (whole : TreeShape) (first : ℕ) (path : List Bound) (paths : List (List Bound)) (ts : List TreeShape) (line : ℕ) where
  -- after a branch that splits, its sides are left
  pub decide_sides : (c : Column) (n : ℕ) (low high : TreeShape) (next : ℕ) → next ≡ line + 1 → Splits m path c n → Decide m rows claim whole first (path ∷ paths) (Split c n low high ∷ ts) line → Decide m rows claim whole first (low_path path c n ∷ high_path path c n ∷ paths) (low ∷ high ∷ ts) next
  decide_sides c n low high next is splits decide = record {
    good = λ total totals good. decide.good total totals (good_sides (ground m total rows claim) path paths c n low high ts (splits total totals) good);
    fault = λ at w total totals fault.
        let g = ground m total rows claim in
        decide.fault at w total totals (faulty_sides g path paths c n low high ts line at w (splits total totals) (subst (λ k. AreTreesFault g (low_path path c n ∷ high_path path c n ∷ paths) (low ∷ high ∷ ts) k at w) is fault));
  }

  -- after a good leaf, the later trees are
  pub decide_leaf : (leaf : LeafShape) (next : ℕ) → next ≡ line + length (leaf_values leaf) → WithTotals m (λ total. IsGoodLeaf (ground m total rows claim) path leaf) → Decide m rows claim whole first (path ∷ paths) (End leaf ∷ ts) line → Decide m rows claim whole first paths ts next
  decide_leaf leaf next is good_leaf decide = record {
    good = λ total totals good. decide.good total totals (record { split = tt; leaves = good_leaf total totals }, good);
    fault = λ at w total totals fault.
        let g = ground m total rows claim in
        decide.fault at w total totals (inr (record { split = tt; leaves = good_leaf total totals }, subst (λ k. AreTreesFault g paths ts k at w) is fault));
  }

  -- a branch that doesn't split
  pub decide_range : (c : Column) (n : ℕ) (low high : TreeShape) → WithTotals m (λ total. IsSplit m (whole_ranges total) path c n → ⊥) → Decide m rows claim whole first (path ∷ paths) (Split c n low high ∷ ts) line → WithTotals m (λ total. IsTreeFault (ground m total rows claim) [] whole first line why.Range)
  decide_range c n low high unsplit decide = λ total totals. decide.fault line why.Range total totals (inl (inl (refl, refl, unsplit total totals)))

  -- a leaf that isn't good
  pub decide_node : (leaf : LeafShape) (at : ℕ) (w : Why) → WithTotals m (λ total. IsNodeFault (ground m total rows claim) path leaf line at w) → Decide m rows claim whole first (path ∷ paths) (End leaf ∷ ts) line → WithTotals m (λ total. IsTreeFault (ground m total rows claim) [] whole first at w)
  decide_node leaf at w faulty decide = λ total totals. decide.fault at w total totals (inl (faulty total totals))

-- no branch is too deep
pub short_sides : (path : List Bound) (paths : List (List Bound)) (c : Column) (n : ℕ) (low high : TreeShape) (ts : List TreeShape) → AreShort (path ∷ paths) (Split c n low high ∷ ts) → AreShort (low_path path c n ∷ high_path path c n ∷ paths) (low ∷ high ∷ ts)
short_sides path paths c n low high ts short =
    (omega (arith, short.0, length-append path (at_most c n ∷ [])), (omega (arith, short.0, length-append path (at_least c (n + 1) ∷ [])), short.1))

pub short_branch : (path : List Bound) (paths : List (List Bound)) (c : Column) (n : ℕ) (low high : TreeShape) (ts : List TreeShape) → AreShort (path ∷ paths) (Split c n low high ∷ ts) → length path < MAX_BRANCHES
short_branch path paths c n low high ts short = omega (arith, short.0)

-- the lines that are left
pub lines_sides : (low high : TreeShape) (ts : List TreeShape) (more : Values) → more ≡ tree_values low ++ tree_values high → more ++ (trees_values ts ++ EndLine ∷ []) ≡ trees_values (low ∷ high ∷ ts) ++ EndLine ∷ []
lines_sides low high ts more is =
    ap (λ ls. ls ++ (trees_values ts ++ EndLine ∷ [])) is ∙ simp append_assoc

pub lines_first : (t : TreeShape) (ts : List TreeShape) → trees_values (t ∷ ts) ++ EndLine ∷ [] ≡ tree_values t ++ (trees_values ts ++ EndLine ∷ [])
lines_first t ts = append_assoc (tree_values t) (trees_values ts) (EndLine ∷ [])
