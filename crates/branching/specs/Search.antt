-- What the search of a model gives, and what it shows where it leaves the best cost open.
use Rattle.std.specs.Prelude.{◌≡◌, ◌⊎◌, ℕ, ◌+◌, ◌*◌, ◌≤◌, ◌<◌, Bool, true, false, List, [], length, map, Option, Some, None, IfSome, IsNone, IsSome, ⊤}
use Rattle.lot_sizing.specs.Problem.{IsPlain, Problem, item_count}
use Rattle.lot_sizing.specs.Plan as terms
use Rattle.plan_rules.specs.declared.plan.Plan.{Plan}
use Rattle.lin_rows.specs.declared.bound.Bound.{Bound}
use Rattle.lin_rows.specs.Rows.{LinRow}
use Rattle.cert_lines.specs.declared.limits.TheConstants.{FIRST_CERT_VERSION, LOTS_CERT_VERSION, MAX_BRANCHES}
use Rattle.cert_lines.specs.declared.parts.Claim.{Claim}
use Rattle.cert_lines.specs.declared.parts.Claim.TheVariants.{Optimal, Infeasible, Bound as BoundOf}
use Rattle.cert_lines.specs.Shapes.{CutShape, LeafShape, cut_shape}
use Rattle.certificate.specs.Counts.{longest_path}
use Rattle.certificate.specs.Limits.{IsWritable}
use Rattle.certificate.specs.Shapes.{End, Shape, Split, TreeShape, tree_shape}
use Rattle.cert_trees.specs.Ranges.{WithTotals}
use Rattle.cert_trees.specs.Trees.{EachLeaf, high_path, low_path}
use Rattle.cert_meaning.specs.declared.says.LeafSays.TheVariants.{AtLeast}
use Rattle.cert_checker.specs.Checks.{HaveGoodRows}
use Rattle.cert_checker.specs.Leaves.{LeafSaysThis}
use Rattle.search_result.specs.declared.found.Found.{Found}
use Rattle.search_result.specs.declared.found.RootSays.{RootSays}
use Rattle.search_result.specs.declared.found.RootSays.TheVariants as root
use Rattle.lp_root.specs.declared.round_leaf.Root.{Root}
use Rattle.lp_root.specs.Root.{RootMeans}
use Rattle.own_plan.specs.OwnPeriod.{IsOwnPeriod}
pub use Rattle.incumbent.specs.Good.{IsGoodPlan, cost_of}
use Rattle.item_bound.specs.Apart.{IsApart}
use Rattle.lp_bounds.specs.declared.says.Exempt.{Exempt}
use Rattle.lp_bounds.specs.Path.{IsExempt, IsMetAt}
use Rattle.tree_search.specs.declared.limits.Limits.{Limits}
use Rattle.tree_search.specs.Gaps.{IsWithinGap}
use Rattle.tree_search.specs.Whole.{whole_height, whole_volume}

-- ---- plans
-- there is a plan, and it costs no more than this
abbrev pub CostsAtMost : Problem → Option Plan → ℕ → Type 0
CostsAtMost m None amount = ⊥
CostsAtMost m (Some p) amount = cost_of m p ≤ amount

-- where a plan is given there is one, and it costs no more than the given one
abbrev pub KeepsFirst : Problem → Option Plan → Option Plan → Type 0
KeepsFirst m first given = IfSome first (λ p. CostsAtMost m given (cost_of m p))

-- where the own-period plan is feasible there is one, and it costs no more than that
abbrev pub KeepsOwn : Problem → Option Plan → Type 0
KeepsOwn m given = (q : terms.Plan) → IsOwnPeriod m q → terms.IsFeasible m q → CostsAtMost m given (terms.cost m q)

-- the amount is below the cost of the plan, or there is none
abbrev pub IsBelowPlan : Problem → Option Plan → ℕ → Type 0
IsBelowPlan m None amount = ⊤
IsBelowPlan m (Some p) amount = amount < cost_of m p

-- ---- claims
-- an optimal cost is claimed with a plan, and that none is feasible without one; a bound is below the cost of the plan, if there is one
abbrev pub GoesTogether : Problem → Claim → Option Plan → Type 0
GoesTogether m (Optimal amount) given = IsSome given
GoesTogether m Infeasible given = IsNone given
GoesTogether m (BoundOf amount) given = IsBelowPlan m given amount

-- something is so of the amount of a bound
abbrev pub IfBound : Claim → (ℕ → Type 0) → Type 0
IfBound (Optimal amount) P = ⊤
IfBound Infeasible P = ⊤
IfBound (BoundOf amount) P = P amount

-- no bound is claimed: the model is decided
abbrev pub IsDecided : Claim → Type 0
IsDecided (Optimal amount) = ⊤
IsDecided Infeasible = ⊤
IsDecided (BoundOf amount) = ⊥

-- the amount that is claimed, if there is one, is no less than this
abbrev pub IsClaimedAtLeast : ℕ → Claim → Type 0
IsClaimedAtLeast least (Optimal amount) = least ≤ amount
IsClaimedAtLeast least Infeasible = ⊤
IsClaimedAtLeast least (BoundOf amount) = least ≤ amount

-- it is no less than what the items cost apart
abbrev pub IsNoLessThanApart : Problem → Claim → Type 0
IsNoLessThanApart m claim = (amount : ℕ) → IsApart m amount → IsClaimedAtLeast amount claim

-- ---- the root
-- this is what is said at the root
abbrev pub IsSaidAtRoot : Problem → RootSays → Type 0
IsSaidAtRoot m says = (r : Root) × RootMeans m r × (r.says ≡ says)

-- without coupling a model is decided by one node
pub record IsDecidedByOne (found : Found) : Type 0 where
  pub alone : found.nodes ≡ 1
  pub decided : IsDecided found.certificate.claim

-- where the root says that the relaxation has no point, one node says that no plan is feasible
pub record IsImpossibleByOne (found : Found) : Type 0 where
  pub alone : found.nodes ≡ 1
  pub none : found.certificate.claim ≡ Infeasible

-- what is said at the root is used: after Uncoupled and after Empty there is one node, and no amount below a closed one is claimed
abbrev pub UsesRoot : Found → RootSays → Type 0
UsesRoot found root.Uncoupled = IsDecidedByOne found
UsesRoot found (root.Skipped cells) = ⊤
UsesRoot found (root.Closed least) = IsClaimedAtLeast least found.certificate.claim
UsesRoot found root.Empty = IsImpossibleByOne found
UsesRoot found (root.Stopped round) = ⊤
UsesRoot found (root.Passed round at) = ⊤

-- ---- the leaves, over the rows of the certificate's cuts
abbrev pub cuts_in : Found → List CutShape
cuts_in found = map cut_shape found.certificate.cuts.items

abbrev pub tree_in : Found → TreeShape
tree_in found = tree_shape found.certificate.tree

-- the cuts have rows, and this is so of them
abbrev pub WithRows : Problem → Found → (List LinRow → Type 0) → Type 0
WithRows m found P = (rows : List LinRow) × HaveGoodRows m (cuts_in found) rows × P rows

-- this is so of some leaf and the path to it
abbrev pub SomeLeaf : (List Bound → LeafShape → Type 0) → List Bound → TreeShape → Type 0
SomeLeaf P path (Split c at low high) = SomeLeaf P (low_path path c at) low ⊎ SomeLeaf P (high_path path c at) high
SomeLeaf P path (End leaf) = P path leaf

-- the leaf says that each plan in it costs at least this
abbrev pub SaysAmount : Problem → List LinRow → ℕ → List Bound → LeafShape → Type 0
SaysAmount m rows amount path leaf = LeafSaysThis m rows path leaf (AtLeast amount)

-- ---- evidence
-- no leaf without cuts could have said more there: some point meets the base rows and the bounds of the path, and costs no more than this. Or the relaxation on the path was not found, for a cause of its own; or it wasn't tried, since the root's program has too many cells
abbrev pub IsEvidence : Problem → RootSays → List Bound → ℕ → Type 0
IsEvidence m said path amount =
    IsMetAt m path amount
    ⊎ ((cause : Exempt) × IsExempt m path cause)
    ⊎ ((cells : ℕ) × (said ≡ root.Skipped cells))

-- the amount of a bound is said by some leaf, and at each leaf that says it there is evidence
pub record HasEvidence (m : Problem) (found : Found) (amount : ℕ) (rows : List LinRow) : Type 0 where
  pub some : SomeLeaf (SaysAmount m rows amount) [] (tree_in found)
  pub each : EachLeaf (λ path leaf. SaysAmount m rows amount path leaf → IsEvidence m found.root path amount) [] (tree_in found)

-- ---- causes
-- a leaf that leaves the best cost open has as many branches above it as a path may have
abbrev pub IsDeepIfOpen : Problem → Option Plan → List LinRow → List Bound → LeafShape → Type 0
IsDeepIfOpen m given rows path leaf =
    (amount : ℕ) → SaysAmount m rows amount path leaf → IsBelowPlan m given amount → MAX_BRANCHES ≤ length path

-- the longest path has as many branches as it may, the model has more height than that, and each leaf that leaves the best cost open has as many above it
pub record IsDeep (m : Problem) (found : Found) (rows : List LinRow) : Type 0 where
  pub longest : longest_path (tree_in found) ≡ MAX_BRANCHES
  pub height : WithTotals m (λ total. MAX_BRANCHES < whole_height (item_count m) m.periods total)
  pub leaves : EachLeaf (IsDeepIfOpen m found.plan rows) [] (tree_in found)

-- two more nodes would pass the budget, or the tree is as deep as it may be
abbrev pub IsOutOfRoom : Problem → ℕ → Found → List LinRow → Type 0
IsOutOfRoom m budget found rows = (budget < found.nodes + 2) ⊎ IsDeep m found rows

-- a bound is claimed, and there is a plan that costs no more than the gap above it
abbrev pub IsPlanNear : Problem → Option ℕ → Claim → Option Plan → Type 0
IsPlanNear m gap (Optimal amount) given = ⊥
IsPlanNear m gap Infeasible given = ⊥
IsPlanNear m gap (BoundOf amount) None = ⊥
IsPlanNear m gap (BoundOf amount) (Some p) = IsWithinGap gap amount (Some (cost_of m p))

-- no limits but the budget
abbrev pub no_limits : Limits
no_limits = record { gap = None }

-- why a bound is claimed. There was no more room; or the plan costs no more than the gap of the limits above the bound; or what watches may have ended the search, which `stopping` says
abbrev pub IsUndecided : Problem → ℕ → Limits → Bool → Found → List LinRow → Type 0
IsUndecided m budget limits stopping found rows =
    IsOutOfRoom m budget found rows
    ⊎ IsPlanNear m limits.gap found.certificate.claim found.plan
    ⊎ (stopping ≡ true)

-- the budget is enough for all choices of quantities and setups, and no path is too short for them
pub record HasBudgetForAll (m : Problem) (budget : ℕ) (total : ℕ → ℕ) : Type 0 where
  pub volume : 2 * whole_volume (item_count m) m.periods total ≤ budget + 1
  pub height : whole_height (item_count m) m.periods total ≤ MAX_BRANCHES

-- then the model is decided, unless there is a gap within which the search may end, or what watches may end it
abbrev pub DecidesSmall : Problem → ℕ → Limits → Bool → Claim → Type 0
DecidesSmall m budget limits stopping claim =
    limits.gap ≡ None → stopping ≡ false → WithTotals m (λ total. HasBudgetForAll m budget total → IsDecided claim)

-- ---- versions
-- the usual version of the texts of a problem: the first where it is plain, and else the one that names least lots and late ones
pub record IsUsualVersion (m : Problem) (version : ℕ) : Type 0 where
  pub plain : IsPlain m → version ≡ FIRST_CERT_VERSION
  pub other : (IsPlain m → ⊥) → version ≡ LOTS_CERT_VERSION

-- the same claim, cuts and tree as a certificate of another version
abbrev pub in_version : ℕ → Shape → Shape
in_version version s = record { version = version; claim = s.claim; cuts = s.cuts; tree = s.tree }

-- the version of a certificate is the least, from the usual one on, in which it has a text, and none above the newest that was asked for
pub record IsVersionOf (m : Problem) (newest : ℕ) (s : Shape) : Type 0 where
  pub usual : ℕ
  pub is_usual : IsUsualVersion m usual
  pub from : usual ≤ s.version
  pub at_most : s.version ≤ newest
  pub written : IsWritable s
  pub least : (version : ℕ) → usual ≤ version → version < s.version → IsWritable (in_version version s) → ⊥
