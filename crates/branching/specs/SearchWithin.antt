-- What the search of a model within given ranges gives, and what it shows where it leaves the best cost open.
use Rattle.std.specs.Prelude.{◌≡◌, ◌⊎◌, ℕ, ◌+◌, ◌≤◌, ◌<◌, ◌^◌, Bool, true, List, [], length, Option}
use Rattle.lot_sizing.specs.Problem.{Problem, item_count}
use Rattle.plan_rules.specs.declared.plan.Plan.{Plan}
use Rattle.lin_rows.specs.declared.bound.Bound.{Bound}
use Rattle.lin_rows.specs.Rows.{LinRow}
use Rattle.cert_lines.specs.declared.limits.TheConstants.{MAX_BRANCHES}
use Rattle.cert_lines.specs.Shapes.{LeafShape}
use Rattle.certificate.specs.Counts.{longest_path, node_count}
use Rattle.certificate.specs.Limits.{IsWritable}
use Rattle.certificate.specs.Shapes.{Shape, shape_of}
use Rattle.cert_trees.specs.Ranges.{Ranges, WithTotals}
use Rattle.cert_trees.specs.Trees.{EachLeaf}
use Rattle.cert_meaning.specs.declared.says.LeafSays.TheVariants.{AtLeast}
use Rattle.cert_meaning.specs.Accepts.{Fits, IsAccepted, IsTrueWithin}
use Rattle.cert_meaning.specs.Named.{names}
use Rattle.cert_meaning.specs.Says.{Says}
use Rattle.cert_checker.specs.Checks.{ComesWith, line_count, plan_given}
use Rattle.cert_checker.specs.Cuts.{OfProblem}
use Rattle.search_result.specs.declared.found.Found.{Found}
use Rattle.search_result.specs.Found.{IsProved}
use Rattle.tree_search.specs.declared.limits.Limits.{Limits}
use Rattle.tree_search.specs.Whole.{whole_height}
use Rattle.node_domains.specs.Within.{IsWhole}
use Rattle.branching.specs.Search.{IsBelowPlan, IsEvidence, IsPlanNear, SomeLeaf, tree_in}

-- ---- certificates
-- a certificate is accepted over the ranges with the plan that was given, and its sums are small
pub record IsCertifiedWithin (m : Problem) (total : ℕ → ℕ) (weight : ℕ → ℕ → ℕ) (ranges : Ranges) (c : Shape) (given : Option Plan) : Type 0 where
  pub accepted : IsAccepted m total weight ranges c (plan_given given)
  pub fits : Fits m total accepted.rows c
  pub plan : ComesWith m c.claim given

-- the certificate has a text, is accepted over the ranges with the plan, and its claim is true of the plans within them; nodes are those of its tree
pub record IsProvedWithin (m : Problem) (ranges : Ranges) (found : Found) : Type 0 where
  pub writable : IsWritable (shape_of found.certificate)
  pub lines : line_count (shape_of found.certificate) < 2 ^ 63
  pub certified : OfProblem m (λ total weight. IsCertifiedWithin m total weight ranges (shape_of found.certificate) found.plan)
  pub claim : IsTrueWithin m ranges found.certificate.claim (plan_given found.plan)
  pub nodes : found.nodes ≡ node_count (shape_of found.certificate).tree

-- ---- the leaves, over the rows of the certificate's cuts
-- the leaf says that each plan in it costs at least this
abbrev pub SaysAmountWithin : Problem → Ranges → List LinRow → ℕ → List Bound → LeafShape → Type 0
SaysAmountWithin m ranges rows amount path leaf = WithTotals m (λ total. Says (names m total rows path) ranges leaf (AtLeast amount))

-- the amount of a bound is said by some leaf, and at each leaf that says it there is evidence
pub record HasEvidenceWithin (m : Problem) (ranges : Ranges) (found : Found) (amount : ℕ) (rows : List LinRow) : Type 0 where
  pub some : SomeLeaf (SaysAmountWithin m ranges rows amount) [] (tree_in found)
  pub each : EachLeaf (λ path leaf. SaysAmountWithin m ranges rows amount path leaf → IsEvidence m found.root path amount) [] (tree_in found)

-- ---- causes
-- a leaf that leaves the best cost open has as many branches above it as a path may have
abbrev pub IsDeepIfOpenWithin : Problem → Ranges → Option Plan → List LinRow → List Bound → LeafShape → Type 0
IsDeepIfOpenWithin m ranges given rows path leaf =
    (amount : ℕ) → SaysAmountWithin m ranges rows amount path leaf → IsBelowPlan m given amount → MAX_BRANCHES ≤ length path

-- the longest path has as many branches as it may, the model has more height than that, and each leaf that leaves the best cost open has as many above it
pub record IsDeepWithin (m : Problem) (ranges : Ranges) (found : Found) (rows : List LinRow) : Type 0 where
  pub longest : longest_path (tree_in found) ≡ MAX_BRANCHES
  pub height : WithTotals m (λ total. MAX_BRANCHES < whole_height (item_count m) m.periods total)
  pub leaves : EachLeaf (IsDeepIfOpenWithin m ranges found.plan rows) [] (tree_in found)

-- two more nodes would pass the budget, or the tree is as deep as it may be
abbrev pub IsOutOfRoomWithin : Problem → Ranges → ℕ → Found → List LinRow → Type 0
IsOutOfRoomWithin m ranges budget found rows = (budget < found.nodes + 2) ⊎ IsDeepWithin m ranges found rows

-- why a bound is claimed. There was no more room; or the plan costs no more than the gap of the limits above the bound; or what watches may have ended the search, which `stopping` says
abbrev pub IsUndecidedWithin : Problem → Ranges → ℕ → Limits → Bool → Found → List LinRow → Type 0
IsUndecidedWithin m ranges budget limits stopping found rows =
    IsOutOfRoomWithin m ranges budget found rows
    ⊎ IsPlanNear m limits.gap found.certificate.claim found.plan
    ⊎ (stopping ≡ true)

-- ---- the whole ranges
-- what is proved over them is proved of all plans
abbrev pub WholeIsProved : Problem → Type 0
WholeIsProved m = (ranges : Ranges) → IsWhole m ranges → (found : Found) → IsProvedWithin m ranges found → IsProved m found
