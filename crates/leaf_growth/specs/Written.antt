-- When a certificate has a text: from the lines of its cuts and leaves.
use Rattle.std.specs.Prelude.{◌≡◌, ◌≤◌, ◌<◌, ◌^◌, ℕ, List, [], length}
use Rattle.lot_sizing.specs.Problem.{EachItem, IsPlain, IsWithinLimits, Problem}
use Rattle.lot_sizing.specs.declared.limits.TheConstants.{MAX_TOTAL}
use Rattle.lin_rows.specs.declared.bound.Bound.{Bound}
use Rattle.cert_lines.specs.declared.limits.TheConstants.{FIRST_CERT_VERSION, MAX_BRANCHES, MAX_CUTS}
use Rattle.cert_lines.specs.Limits.{IsSmallClaim, IsVersion}
use Rattle.cert_lines.specs.Shapes.{LeafShape}
use Rattle.certificate.specs.Counts.{longest_path, node_count}
use Rattle.certificate.specs.Limits.{IsWritable}
use Rattle.certificate.specs.Shapes.{Shape, TreeShape}
use Rattle.certificate.specs.Values.{AreLines, all_cut_values, leaf_values, tree_values}
use Rattle.cert_trees.specs.Ranges.{whole_ranges}
use Rattle.cert_trees.specs.Trees.{EachLeaf, IsSplitTree}
use Rattle.cert_checker.specs.Checks.{line_count}
use Rattle.leaf_growth.specs.declared.limits.TheConstants.{MAX_NODES}

-- a version of texts that has the names of the problem's rows: the first one has none of least lots and of lots that come too late
pub record HasVersion (m : Problem) (version : ℕ) : Type 0 where
  pub exists : IsVersion version
  pub plain : version ≡ FIRST_CERT_VERSION → IsPlain m

-- the lines of a leaf are those of texts of this version
abbrev pub LeafHasLines : ℕ → LeafShape → Type 0
LeafHasLines version leaf = AreLines version (leaf_values leaf)

-- no item's largest total passes the limit of totals
abbrev pub AreSmallTotals : Problem → (ℕ → ℕ) → Type 0
AreSmallTotals m total = EachItem m (λ i. total i ≤ MAX_TOTAL)

-- the lines of a split tree's branches are short too
abbrev pub TreesHaveLines : Type 0
TreesHaveLines =
    (m : Problem) (total : ℕ → ℕ) (version : ℕ) (path : List Bound) (tree : TreeShape)
    → IsWithinLimits m → AreSmallTotals m total → IsSplitTree m (whole_ranges total) path tree
    → EachLeaf (λ way leaf. LeafHasLines version leaf) path tree → AreLines version (tree_values tree)

-- what a certificate is made of: a version, a claim, cuts and a split tree, each within the limits
pub record IsMadeOf (m : Problem) (total : ℕ → ℕ) (s : Shape) : Type 0 where
  pub version : IsVersion s.version
  pub amount : IsSmallClaim s.claim
  pub few : length s.cuts ≤ MAX_CUTS
  pub cuts : AreLines s.version (all_cut_values s.cuts)
  pub split : IsSplitTree m (whole_ranges total) [] s.tree
  pub paths : longest_path s.tree ≤ MAX_BRANCHES
  pub leaves : EachLeaf (λ way leaf. LeafHasLines s.version leaf) [] s.tree

abbrev pub MadeIsWritable : Type 0
MadeIsWritable =
    (m : Problem) (total : ℕ → ℕ) (s : Shape) → IsWithinLimits m → AreSmallTotals m total → IsMadeOf m total s → IsWritable s

-- a certificate with a text has few lines for each node
abbrev pub FewLines : Type 0
FewLines = (s : Shape) → IsWritable s → node_count s.tree ≤ MAX_NODES → line_count s < 2 ^ 63
