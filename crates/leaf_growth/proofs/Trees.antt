-- The lines of trees and of whole certificates.
use Rattle.std.proofs.Common.{◌≤◌, ◌<◌, ◌+◌, ◌*◌, ◌^◌, ℕ, arith, Bool, true, false, List, [], ◌∷◌, ◌++◌, length}
use Rattle.std.specs.Prelude.{if◌then◌else◌}
use Rattle.std.proofs.lemmas.List.{length-append, length-map}
use Rattle.lot_sizing.specs.Problem.{IsWithinLimits, Problem}
use Rattle.lot_sizing.specs.declared.limits.TheConstants.{MAX_TOTAL}
use Rattle.lin_rows.specs.declared.bound.Bound.{Bound}
use Rattle.lin_rows.specs.declared.column.Column.{Column}
use Rattle.lin_rows.specs.declared.column.Column.TheVariants.{X, Y, S, R}
use Rattle.lin_rows.specs.Sums.{same_column}
use Rattle.cert_lines.specs.declared.limits.TheConstants.{MAX_GROUPS, MAX_LISTS, MAX_PARTS, MAX_ROUND_PARTS}
use Rattle.cert_lines.specs.Shapes.{BlockCut, CutShape, EndLine, FarkasLeaf, GroupLine, LeafShape, LinearLeaf, ListLine, LsCut, PartLine, PointLeaf, PriceCut, ReducedLeaf, RoundCut}
use Rattle.certificate.specs.Counts.{node_count}
use Rattle.certificate.specs.Limits.{IsWritable}
use Rattle.certificate.specs.Shapes.{End, Shape, Split, TreeShape}
use Rattle.certificate.specs.Values.{AreLines, all_cut_values, cut_values, group_values, leaf_values, list_values, part_values, tree_values}
use Rattle.certificate.proofs.Shorts.{end_line, lines_join, lines_split}
use Rattle.cert_trees.specs.Spans.{Span}
use Rattle.cert_trees.specs.Ranges.{IsChoice, whole_ranges}
use Rattle.cert_trees.specs.Paths.{cut_span, left_to, narrowed}
use Rattle.cert_trees.specs.Trees.{EachLeaf, IsSplitTree, high_path, low_path}
use Rattle.cert_checker.specs.Checks.{line_count}
use Rattle.leaf_growth.specs.declared.limits.TheConstants.{MAX_NODES}
use Rattle.leaf_growth.specs.Written.{AreSmallTotals, IsMadeOf, LeafHasLines}
use Rattle.leaf_growth.proofs.Lines.{branch_has_line}

-- ---- a path leaves no number past the whole range
cut_high : (most : Bool) (n : ℕ) (s : Span) → (cut_span most n s).high ≤ s.high
cut_high true n s = omega arith
cut_high false n s = omega arith

if_high : (b : Bool) (s r : Span) → s.high ≤ r.high → (if b then s else r).high ≤ r.high
if_high true s r less = less
if_high false s r less = omega arith

narrowed_high : (s : Span) (b : Bound) (c : Column) → (narrowed s b c).high ≤ s.high
narrowed_high s b c = if_high (same_column b.column c) (cut_span b.most b.number s) s (cut_high b.most b.number s)

left_high : (s : Span) (path : List Bound) (c : Column) → (left_to s path c).high ≤ s.high
left_high s [] c = omega arith
left_high s (b ∷ path) c = omega (arith, left_high (narrowed s b c) path c, narrowed_high s b c)

whole_high : (m : Problem) (total : ℕ → ℕ) (c : Column) → AreSmallTotals m total → IsChoice m c → (whole_ranges total c).high ≤ MAX_TOTAL
whole_high m total (X i t) small is = small i is.0 is.1
whole_high m total (Y i t) small is = omega arith
whole_high m total (S i t) small is = absurd is
whole_high m total (R i t) small is = absurd is

-- ---- trees
pub tree_lines : (m : Problem) (total : ℕ → ℕ) (version : ℕ) (path : List Bound) (tree : TreeShape) → IsWithinLimits m → AreSmallTotals m total → IsSplitTree m (whole_ranges total) path tree → EachLeaf (λ way leaf. LeafHasLines version leaf) path tree → AreLines version (tree_values tree)
tree_lines m total version path (End leaf) limits small split each = each
tree_lines m total version path (Split c at low high) limits small split each =
    let most : at ≤ MAX_TOTAL = omega (arith, split.0.high, left_high (whole_ranges total c) path c, whole_high m total c small split.0.column) in (
      branch_has_line m version c at limits split.0.column most,
      lines_join version (tree_values low) (tree_values high)
          (tree_lines m total version (low_path path c at) low limits small split.1 each.0)
          (tree_lines m total version (high_path path c at) high limits small split.2 each.1),
    )

pub made_writable : (m : Problem) (total : ℕ → ℕ) (s : Shape) → IsWithinLimits m → AreSmallTotals m total → IsMadeOf m total s → IsWritable s
made_writable m total s limits small made = record {
  version = made.version;
  amount = made.amount;
  few = made.few;
  paths = made.paths;
  lines = lines_join s.version (all_cut_values s.cuts) (tree_values s.tree ++ (EndLine ∷ [])) made.cuts
      (lines_join s.version (tree_values s.tree) (EndLine ∷ []) (tree_lines m total s.version [] s.tree limits small made.split made.leaves) (end_line {version = s.version}, tt));
}

-- ---- few lines
pub leaf_few : (version : ℕ) (leaf : LeafShape) → LeafHasLines version leaf → length (leaf_values leaf) ≤ MAX_PARTS + MAX_LISTS + MAX_GROUPS + 1
leaf_few version (LinearLeaf den parts) is = omega (arith, length-append (part_values parts) [], length-map parts (λ p. PartLine p), is.0.form.small.2)
leaf_few version (FarkasLeaf parts) is = omega (arith, length-append (part_values parts) [], length-map parts (λ p. PartLine p), is.0.form.small)
leaf_few version PointLeaf is = omega arith
leaf_few version (ReducedLeaf den parts lists groups) is =
    let small = is.0.form.small in
    omega (
      arith,
      length-append (part_values parts) (list_values lists ++ group_values groups),
      length-append (list_values lists) (group_values groups),
      length-map parts (λ p. PartLine p),
      length-map lists (λ a. ListLine a),
      length-map groups (λ g. GroupLine g),
      small.1,
      small.2,
      small.3,
    )

cut_few : (version : ℕ) (c : CutShape) → AreLines version (cut_values c) → length (cut_values c) ≤ MAX_ROUND_PARTS + 1
cut_few version (LsCut item last chosen) is = omega arith
cut_few version (PriceCut item lists) is = omega arith
cut_few version (BlockCut item lists) is = omega arith
cut_few version (RoundCut divisor parts) is = omega (arith, length-map parts (λ p. PartLine p), is.0.form.small.2)

cuts_few : (version : ℕ) (cuts : List CutShape) → AreLines version (all_cut_values cuts) → length (all_cut_values cuts) ≤ (MAX_ROUND_PARTS + 1) * length cuts
cuts_few version [] are = omega arith
cuts_few version (c ∷ cuts) are =
    let both = lines_split version (cut_values c) (all_cut_values cuts) are in
    omega (arith, length-append (cut_values c) (all_cut_values cuts), cut_few version c both.0, cuts_few version cuts both.1)

tree_few : (version : ℕ) (tree : TreeShape) → AreLines version (tree_values tree) → length (tree_values tree) ≤ (MAX_PARTS + MAX_LISTS + MAX_GROUPS + 1) * node_count tree
tree_few version (End leaf) are = omega (arith, leaf_few version leaf are)
tree_few version (Split c at low high) are =
    let both = lines_split version (tree_values low) (tree_values high) are.1 in
    omega (arith, length-append (tree_values low) (tree_values high), tree_few version low both.0, tree_few version high both.1)

pub lines_few : (s : Shape) → IsWritable s → node_count s.tree ≤ MAX_NODES → line_count s < 2 ^ 63
lines_few s is nodes =
    let rest = tree_values s.tree ++ (EndLine ∷ []) in
    let both = lines_split s.version (all_cut_values s.cuts) rest is.lines in
    let tree = lines_split s.version (tree_values s.tree) (EndLine ∷ []) both.1 in
    omega (
      arith,
      length-append (all_cut_values s.cuts) rest,
      length-append (tree_values s.tree) (EndLine ∷ []),
      cuts_few s.version s.cuts both.0,
      tree_few s.version s.tree tree.0,
      is.few,
      nodes,
    )
