-- Cuts with their rows and a split tree of leaves that say enough make a certificate that is accepted.
use Rattle.std.proofs.Common.{◌≤◌, ◌<◌, ◌^◌, ℕ, refl, subst, arith, Bool, true, false, List, [], ◌∷◌, length, Option, Some, None}
use Rattle.std.specs.Prelude.{IfSome, if◌then◌else◌}
use Rattle.lot_sizing.specs.Problem.{Problem}
use Rattle.lot_sizing.specs.Bill.{AreWeights, bill_of}
use Rattle.lot_sizing.specs.Laws.{TotalsAreOne}
use Rattle.lot_sizing.specs.Totals.{AreLargestTotals}
use Rattle.lot_sizing.specs.declared.limits.TheConstants.{MAX_TOTAL}
use Rattle.lot_model.specs.Views.{IsInstance}
use Rattle.plan_rules.specs.declared.plan.Plan.{Plan}
use Rattle.plan_rules.specs.Held.{plan_of}
use Rattle.lin_rows.specs.declared.bound.Bound.{Bound}
use Rattle.lin_rows.specs.declared.column.Column.{Column}
use Rattle.lin_rows.specs.declared.column.Column.TheVariants.{X, Y, S, R}
use Rattle.lin_rows.specs.Sums.{same_column}
use Rattle.lin_rows.specs.Rows.{LinRow}
use Rattle.cert_lines.specs.declared.limits.TheConstants.{MAX_BRANCHES, MAX_CUTS}
use Rattle.cert_lines.specs.declared.parts.Claim.{Claim}
use Rattle.cert_lines.specs.declared.parts.Claim.TheVariants.{Optimal, Infeasible, Bound as BoundOf}
use Rattle.cert_lines.specs.Limits.{IsSmallClaim}
use Rattle.cert_lines.specs.Shapes.{LeafShape}
use Rattle.certificate.specs.Counts.{longest_path, node_count}
use Rattle.certificate.specs.Limits.{IsWritable}
use Rattle.certificate.specs.Shapes.{End, Shape, Split, TreeShape}
use Rattle.certificate.specs.Values.{AreLines, all_cut_values}
use Rattle.cert_trees.specs.Paths.{cut_span, left_to, narrowed}
use Rattle.cert_trees.specs.Ranges.{IsChoice, IsWithin, Ranges, whole_ranges}
use Rattle.cert_trees.specs.Spans.{Span}
use Rattle.cert_trees.specs.Trees.{EachLeaf, IsSplitTree, high_path, low_path}
use Rattle.cert_meaning.specs.declared.says.LeafSays.{LeafSays}
use Rattle.cert_meaning.specs.Named.{names}
use Rattle.cert_meaning.specs.Accepts.{GoesWith, IsAccepted, IsEnough, IsSmallLeaf, IsTrueWithin, SaysEnough}
use Rattle.cert_meaning.specs.Laws.{AcceptedOverRanges}
use Rattle.cert_checker.specs.Checks.{ComesWith, HaveGoodRows, line_count, plan_given}
use Rattle.cert_checker.specs.Cuts.{OfProblem}
use Rattle.leaf_growth.specs.declared.limits.TheConstants.{MAX_NODES}
use Rattle.leaf_growth.specs.Written.{AreSmallTotals, FewLines, HasVersion, LeafHasLines, MadeIsWritable}
use Rattle.branching.specs.Leaves.{LeafSaysWithin}
use Rattle.branching.specs.Search.{in_version}
use Rattle.branching.specs.SearchWithin.{IsCertifiedWithin}
use Rattle.node_domains.specs.Within.{AreInside}

-- the laws that are used
pub record Grounds (m : Problem) : Type 0 where
  pub instance : IsInstance m
  pub totals_are_one : TotalsAreOne
  pub accepted_over_ranges : AcceptedOverRanges
  pub made_is_writable : MadeIsWritable
  pub few_lines : FewLines
  pub figures : (total : ℕ → ℕ) × (weight : ℕ → ℕ → ℕ) × AreLargestTotals m total × AreWeights (bill_of m) weight

-- a leaf says enough for the claim, its sums are small, and it can be written
pub record IsEnoughAt (m : Problem) (ranges : Ranges) (version : ℕ) (rows : List LinRow) (claim : Claim) (path : List Bound) (leaf : LeafShape) : Type 0 where
  pub amount : LeafSays
  pub says : LeafSaysWithin m ranges rows path leaf amount
  pub enough : IsEnough claim amount
  pub lines : LeafHasLines version leaf

pub record IsShownBy (m : Problem) (ranges : Ranges) (s : Shape) (rows : List LinRow) (given : Option Plan) : Type 0 where
  pub version : HasVersion m s.version
  pub amount : IsSmallClaim s.claim
  pub good : HaveGoodRows m s.cuts rows
  pub few : length s.cuts ≤ MAX_CUTS
  pub lines : AreLines s.version (all_cut_values s.cuts)
  pub inside : AreInside m ranges
  pub split : IsSplitTree m ranges [] s.tree
  pub paths : longest_path s.tree ≤ MAX_BRANCHES
  pub leaves : EachLeaf (IsEnoughAt m ranges s.version rows s.claim) [] s.tree
  pub comes : ComesWith m s.claim given
  pub within : IfSome given (λ p. IsWithin m ranges (plan_of p))
  pub nodes : node_count s.tree ≤ MAX_NODES

-- what it comes to
pub record IsProvedShape (m : Problem) (ranges : Ranges) (s : Shape) (given : Option Plan) : Type 0 where
  pub writable : IsWritable s
  pub lines : line_count s < 2 ^ 63
  pub certified : OfProblem m (λ total weight. IsCertifiedWithin m total weight ranges s given)
  pub claim : IsTrueWithin m ranges s.claim (plan_given given)

-- what follows at each leaf
pub each_map : (P Q : List Bound → LeafShape → Type 0) → ((path : List Bound) (leaf : LeafShape) → P path leaf → Q path leaf) → (path : List Bound) (t : TreeShape) → EachLeaf P path t → EachLeaf Q path t
each_map P Q f path (Split c at low high) each = (each_map P Q f (low_path path c at) low each.0, each_map P Q f (high_path path c at) high each.1)
each_map P Q f path (End leaf) each = f path leaf each

small_totals : (m : Problem) → IsInstance m → TotalsAreOne → (total : ℕ → ℕ) → AreLargestTotals m total → AreSmallTotals m total
small_totals m is one total totals = λ i low high.
    let kept = is.totals in
    subst (λ n. n ≤ MAX_TOTAL) (one m is.ranked.0 kept.0 total is.ranked.1 kept.1 totals i low high) (kept.2 i)

-- a plan that comes with the claim, within the ranges
pub goes_within : (m : Problem) (ranges : Ranges) (claim : Claim) (plan : Option Plan) → ComesWith m claim plan → IfSome plan (λ p. IsWithin m ranges (plan_of p)) → GoesWith m ranges claim (plan_given plan)
goes_within m ranges (Optimal c) (Some p) comes within = (plan_of p, refl, comes.1, within, comes.2)
goes_within m ranges (Optimal c) None comes within = absurd comes
goes_within m ranges Infeasible plan comes within = tt
goes_within m ranges (BoundOf c) plan comes within = tt

-- ---- a tree that splits these ranges splits wider ones
record IsWider (wide narrow : Span) : Type 0 where
  low : wide.low ≤ narrow.low
  high : narrow.high ≤ wide.high

wider_cut : (most : Bool) (number : ℕ) (wide narrow : Span) → IsWider wide narrow → IsWider (cut_span most number wide) (cut_span most number narrow)
wider_cut true number wide narrow is = record { low = is.low; high = omega (arith, is.high) }
wider_cut false number wide narrow is = record { low = omega (arith, is.low); high = is.high }

wider_if : (own : Bool) (b : Bound) (wide narrow : Span) → IsWider wide narrow → IsWider (if own then cut_span b.most b.number wide else wide) (if own then cut_span b.most b.number narrow else narrow)
wider_if true b wide narrow is = wider_cut b.most b.number wide narrow is
wider_if false b wide narrow is = is

wider_left : (path : List Bound) (c : Column) (wide narrow : Span) → IsWider wide narrow → IsWider (left_to wide path c) (left_to narrow path c)
wider_left [] c wide narrow is = is
wider_left (b ∷ path) c wide narrow is = wider_left path c (narrowed wide b c) (narrowed narrow b c) (wider_if (same_column b.column c) b wide narrow is)

wider_tree : (m : Problem) (wide narrow : Ranges) → ((c : Column) → IsChoice m c → IsWider (wide c) (narrow c)) → (path : List Bound) (t : TreeShape) → IsSplitTree m narrow path t → IsSplitTree m wide path t
wider_tree m wide narrow are path (Split c at low high) is =
    let column = is.0.column in
    let here = wider_left path c (wide c) (narrow c) (are c column) in (
      record { column = column; low = omega (arith, here.low, is.0.low); high = omega (arith, here.high, is.0.high) },
      wider_tree m wide narrow are (low_path path c at) low is.1,
      wider_tree m wide narrow are (high_path path c at) high is.2,
    )
wider_tree m wide narrow are path (End leaf) is = tt

no_lower : (total : ℕ → ℕ) (c : Column) (n : ℕ) → (whole_ranges total c).low ≤ n
no_lower total (X i t) n = omega arith
no_lower total (Y i t) n = omega arith
no_lower total (S i t) n = omega arith
no_lower total (R i t) n = omega arith

module _ (m : Problem) (by : Grounds m) (ranges : Ranges) (s : Shape) (rows : List LinRow) (given : Option Plan) (is : IsShownBy m ranges s rows given) where
  shown_lines : EachLeaf (λ way leaf. LeafHasLines s.version leaf) [] s.tree
  shown_lines = each_map (IsEnoughAt m ranges s.version rows s.claim) (λ way leaf. LeafHasLines s.version leaf) (λ path leaf h. h.lines) [] s.tree is.leaves

  writable : IsWritable s
  writable =
      let (total, weight, totals, weights) = by.figures in
      by.made_is_writable m total s by.instance.limits (small_totals m by.instance by.totals_are_one total totals) (record {
        version = is.version.exists;
        amount = is.amount;
        few = is.few;
        cuts = is.lines;
        split = wider_tree m (whole_ranges total) ranges (λ c choice. record { low = no_lower total c (ranges c).low; high = is.inside total totals c choice }) [] s.tree is.split;
        paths = is.paths;
        leaves = shown_lines;
      })

  accepted : (total : ℕ → ℕ) (weight : ℕ → ℕ → ℕ) → AreLargestTotals m total → AreWeights (bill_of m) weight → IsAccepted m total weight ranges s (plan_given given)
  accepted total weight totals weights = record {
    rows = rows;
    cuts = (is.good total weight totals weights).are;
    tree = is.split;
    leaves = each_map (IsEnoughAt m ranges s.version rows s.claim) (SaysEnough m total rows ranges s.claim) (λ path leaf h. (h.amount, h.says.said total totals, h.enough)) [] s.tree is.leaves;
    plan = goes_within m ranges s.claim given is.comes is.within;
  }

  certified : (total : ℕ → ℕ) (weight : ℕ → ℕ → ℕ) → AreLargestTotals m total → AreWeights (bill_of m) weight → IsCertifiedWithin m total weight ranges s given
  unfolding accepted
  certified total weight totals weights = record {
    accepted = accepted total weight totals weights;
    fits = record {
      cuts = (is.good total weight totals weights).small;
      leaves = each_map (IsEnoughAt m ranges s.version rows s.claim) (λ path leaf. IsSmallLeaf (names m total rows path) leaf) (λ path leaf h. h.says.small total totals) [] s.tree is.leaves;
    };
    plan = is.comes;
  }

  pub proved_shape : IsProvedShape m ranges s given
  proved_shape =
      let (total, weight, totals, weights) = by.figures in record {
        writable = writable;
        lines = by.few_lines s writable is.nodes;
        certified = certified;
        claim = by.accepted_over_ranges m by.instance.ranked.0 total weight by.instance.limits.some_period by.instance.ranked.1 totals weights ranges s (plan_given given) (accepted total weight totals weights);
      }

-- ---- in another version
-- what is accepted doesn't depend on the version
certified_in : (m : Problem) (total : ℕ → ℕ) (weight : ℕ → ℕ → ℕ) (ranges : Ranges) (s : Shape) (version : ℕ) (given : Option Plan) → IsCertifiedWithin m total weight ranges s given → IsCertifiedWithin m total weight ranges (in_version version s) given
certified_in m total weight ranges s version given is = record {
  accepted = record { rows = is.accepted.rows; cuts = is.accepted.cuts; tree = is.accepted.tree; leaves = is.accepted.leaves; plan = is.accepted.plan };
  fits = record { cuts = is.fits.cuts; leaves = is.fits.leaves };
  plan = is.plan;
}

pub proved_in : (m : Problem) (ranges : Ranges) (s : Shape) (version : ℕ) (given : Option Plan) → IsWritable (in_version version s) → IsProvedShape m ranges s given → IsProvedShape m ranges (in_version version s) given
proved_in m ranges s version given written is = record {
  writable = written;
  lines = is.lines;
  certified = λ total weight totals weights. certified_in m total weight ranges s version given (is.certified total weight totals weights);
  claim = is.claim;
}
