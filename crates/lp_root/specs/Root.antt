-- What is said at the root.
use Rattle.std.specs.Prelude.{◌≡◌, ◌⊎◌, ℕ, ◌+◌, ◌-◌, ◌*◌, ◌≤◌, ◌<◌, ℤ, List, [], ◌++◌, length, map, Option, IfSome, IsNone, IsSomeAnd, ⊤}
use Rattle.std.specs.List.{All}
use Rattle.rational.specs.Rational.{ℚ}
use Rattle.lot_sizing.specs.Problem.{IsPlain, IsUncoupled, Problem}
use Rattle.lot_sizing.specs.Bill.{AreWeights, bill_of}
use Rattle.lot_sizing.specs.Best.{IsFloor, IsImpossible}
use Rattle.lot_sizing.specs.Totals.{AreLargestTotals}
use Rattle.lin_rows.specs.Columns.{column_count}
use Rattle.lin_rows.specs.Combining.{AreOfProblem}
use Rattle.lin_rows.specs.Rows.{LinRow}
use Rattle.cert_lines.specs.declared.limits.TheConstants.{FIRST_CERT_VERSION, MAX_CUTS}
use Rattle.cert_lines.specs.declared.parts.Leaf.{Leaf}
use Rattle.cert_lines.specs.Shapes.{CutShape, LeafShape, LinearLeaf, FarkasLeaf, PointLeaf, ReducedLeaf, cut_shape, leaf_shape}
use Rattle.certificate.specs.Values.{AreLines, all_cut_values, leaf_values}
use Rattle.tableau.specs.declared.outcome.Outcome.{Outcome}
use Rattle.tableau.specs.declared.outcome.Outcome.TheVariants as outcome
use Rattle.tableau.specs.Denominators.{PassWhole}
use Rattle.tableau.specs.Leaves.{AreOfLeaf}
use Rattle.tableau.specs.Outcomes.{number_at}
use Rattle.cert_trees.specs.Ranges.{WithTotals}
use Rattle.cert_meaning.specs.declared.says.LeafSays.{LeafSays}
use Rattle.cert_meaning.specs.declared.says.LeafSays.TheVariants.{NoPlan, AtLeast}
use Rattle.cert_meaning.specs.CutRows.{AreCutRows}
use Rattle.cert_meaning.specs.Laws.{HoldAtPlans}
use Rattle.cert_meaning.specs.Parts.{AreSmall}
use Rattle.cert_checker.specs.Leaves.{LeafIsSmall, LeafSaysThis}
use Rattle.lp_relaxation.specs.Relaxation.{Closes, HasNoPoint, WithFigures}
use Rattle.lp_relaxation.specs.Rounds.{IsLs, at_root, round_sides}
use Rattle.lp_relaxation.specs.Sides.{parts_of}
use Rattle.search_result.specs.declared.found.PassedAt.{PassedAt}
use Rattle.search_result.specs.declared.found.PassedAt.TheVariants as passed
use Rattle.search_result.specs.declared.found.RootSays.{RootSays}
use Rattle.search_result.specs.declared.found.RootSays.TheVariants as root
use Rattle.lp_root.specs.declared.round_leaf.Root.{Root}
use Rattle.lp_relaxation.specs.declared.limits.TheConstants.{MAX_CELLS, MAX_PIVOTS}
use Rattle.lp_root.specs.declared.at_root.TheConstants.{MAX_ROUNDS}
use Rattle.lp_root.specs.Rounds.{AreCutsAfter, AreCutsFound, AtLeastPoint, EndsRun, PassesFirst}

-- ---- the size of the first program
-- one more than its rows, which are the sides of all base rows, times one more than its columns
abbrev pub first_cells : Problem → (ℕ → ℕ) → ℕ
first_cells m total = (length (round_sides m total []) + 1) * (column_count m + 1)

-- too many cells
pub record IsTooLarge (m : Problem) (cells : ℕ) : Type 0 where
  pub coupled : IsUncoupled m → ⊥
  pub size : WithTotals m (λ total. cells ≡ first_cells m total)
  pub many : MAX_CELLS < cells

-- neither uncoupled nor too large
pub record IsTried (m : Problem) : Type 0 where
  pub coupled : IsUncoupled m → ⊥
  pub few : WithTotals m (λ total. first_cells m total ≤ MAX_CELLS)

-- ---- leaves
-- over the rows of the cuts and without a path the leaf says this, and its sums are small
pub record SaysSmall (m : Problem) (rows : List LinRow) (leaf : LeafShape) (says : LeafSays) : Type 0 where
  pub said : LeafSaysThis m rows [] leaf says
  pub small : LeafIsSmall m rows [] leaf

-- a leaf by linear duality that says an amount
abbrev pub SaysAmount : Problem → List LinRow → ℕ → LeafShape → Type 0
SaysAmount m rows c (LinearLeaf den parts) = SaysSmall m rows (LinearLeaf den parts) (AtLeast c)
SaysAmount m rows c (FarkasLeaf parts) = ⊥
SaysAmount m rows c PointLeaf = ⊥
SaysAmount m rows c (ReducedLeaf den parts lists groups) = ⊥

-- a leaf by Farkas' lemma
abbrev pub SaysNone : Problem → List LinRow → LeafShape → Type 0
SaysNone m rows (LinearLeaf den parts) = ⊥
SaysNone m rows (FarkasLeaf parts) = SaysSmall m rows (FarkasLeaf parts) NoPlan
SaysNone m rows PointLeaf = ⊥
SaysNone m rows (ReducedLeaf den parts lists groups) = ⊥

-- ---- a round that ends without a leaf
-- the rounds before have found these cuts, and the run of this round, whose program has them, ends so
pub record EndsRound (m : Problem) (total : ℕ → ℕ) (weight : ℕ → ℕ → ℕ) (round : ℕ) (cuts : List CutShape) (end : Outcome) : Type 0 where
  pub low : 1 ≤ round
  pub high : round ≤ MAX_ROUNDS
  pub before : AreCutsAfter m total weight (round - 1) cuts
  pub run : EndsRun m total weight cuts end

-- its run has more pivots than it may, or it is the last one and has found more cuts
abbrev pub StopsRounds : Problem → (ℕ → ℕ) → (ℕ → ℕ → ℕ) → ℕ → List CutShape → Type 0
StopsRounds m total weight round cuts =
    EndsRound m total weight round cuts (outcome.Stopped MAX_PIVOTS) ⊎ ((round ≡ MAX_ROUNDS) × AreCutsAfter m total weight MAX_ROUNDS cuts)

-- some step of its separation doesn't fit; what it has found by then stands behind the cuts of the rounds before
pub record PassesSeparation (m : Problem) (total : ℕ → ℕ) (weight : ℕ → ℕ → ℕ) (round : ℕ) (cuts : List CutShape) (i l : ℕ) : Type 0 where
  pub before : List CutShape
  pub end : Outcome
  pub ends : EndsRound m total weight round before end
  pub found : List CutShape
  pub passes : AtLeastPoint m end (λ read. PassesFirst m weight read i l found)
  pub cuts_are : cuts ≡ before ++ found

-- it makes a leaf of multipliers: those of no point, or those of a least point at which separation finds nothing
abbrev pub MakesLeaf : Problem → (ℕ → ℕ → ℕ) → Outcome → List ℚ → Type 0
MakesLeaf m weight (outcome.Least point multipliers value) ys =
    AtLeastPoint m (outcome.Least point multipliers value) (λ read. AreCutsFound m weight read []) × (ys ≡ multipliers.items)
MakesLeaf m weight (outcome.Empty multipliers) ys = ys ≡ multipliers.items
MakesLeaf m weight (outcome.Stopped made) ys = ⊥
MakesLeaf m weight (outcome.Passed pivot row column) ys = ⊥

-- a sum of absolute values of the leaf isn't small
abbrev pub IsLargeLeaf : Problem → (ℕ → ℕ) → List LinRow → List ℚ → Type 0
IsLargeLeaf m total rows ys =
    (den : ℕ) × (z : ℕ → ℤ) × AreOfLeaf (length ys) (number_at ys) den z × (AreSmall (at_root m total rows) (parts_of (round_sides m total rows) z) → ⊥)

-- the leaf, whose numbers are the multipliers over their least common denominator, has a number or a sum that isn't small
pub record PassesLeaf (m : Problem) (total : ℕ → ℕ) (weight : ℕ → ℕ → ℕ) (round : ℕ) (cuts : List CutShape) : Type 0 where
  pub end : Outcome
  pub ends : EndsRound m total weight round cuts end
  pub multipliers : List ℚ
  pub makes : MakesLeaf m weight end multipliers
  pub passes : PassWhole multipliers ⊎ IsLargeLeaf m total ends.run.rows multipliers

abbrev pub IsPassed : Problem → (ℕ → ℕ) → (ℕ → ℕ → ℕ) → ℕ → List CutShape → PassedAt → Type 0
IsPassed m total weight round cuts (passed.Cell pivot row column) = EndsRound m total weight round cuts (outcome.Passed pivot row column)
IsPassed m total weight round cuts (passed.Separation item l) = PassesSeparation m total weight round cuts item l
IsPassed m total weight round cuts passed.Leaf = PassesLeaf m total weight round cuts

-- ---- what is said
-- after rounds with these cuts, which have these rows
abbrev pub RoundsSay : Problem → RootSays → List CutShape → List LinRow → Option Leaf → Type 0
RoundsSay m root.Uncoupled cuts rows leaf = ⊥
RoundsSay m (root.Skipped cells) cuts rows leaf = ⊥
RoundsSay m (root.Closed c) cuts rows leaf = Closes m c × IsSomeAnd leaf (λ a. SaysAmount m rows c (leaf_shape a))
RoundsSay m root.Empty cuts rows leaf = HasNoPoint m × IsSomeAnd leaf (λ a. SaysNone m rows (leaf_shape a))
RoundsSay m (root.Stopped round) cuts rows leaf = WithFigures m (λ total weight. StopsRounds m total weight round cuts) × IsNone leaf
RoundsSay m (root.Passed round at) cuts rows leaf = WithFigures m (λ total weight. IsPassed m total weight round cuts at) × IsNone leaf

abbrev pub SaysOf : Problem → RootSays → List CutShape → List LinRow → Option Leaf → Type 0
SaysOf m root.Uncoupled cuts rows leaf = IsUncoupled m × (cuts ≡ []) × IsNone leaf
SaysOf m (root.Skipped cells) cuts rows leaf = IsTooLarge m cells × (cuts ≡ []) × IsNone leaf
SaysOf m (root.Closed c) cuts rows leaf = IsTried m × RoundsSay m (root.Closed c) cuts rows leaf
SaysOf m root.Empty cuts rows leaf = IsTried m × RoundsSay m root.Empty cuts rows leaf
SaysOf m (root.Stopped round) cuts rows leaf = IsTried m × RoundsSay m (root.Stopped round) cuts rows leaf
SaysOf m (root.Passed round at) cuts rows leaf = IsTried m × RoundsSay m (root.Passed round at) cuts rows leaf

-- the cuts are of (l,S) rows, and these are their rows, which hold at each feasible plan
pub record HaveRootRows (m : Problem) (cuts : List CutShape) (rows : List LinRow) : Type 0 where
  pub are_ls : All IsLs cuts
  pub few : length cuts ≤ MAX_CUTS
  pub rows_are : WithFigures m (λ total weight. AreCutRows m total weight [] cuts rows)
  pub hold : HoldAtPlans m rows
  pub columns_exist : AreOfProblem m rows

abbrev pub root_cuts : Root → List CutShape
root_cuts r = map cut_shape r.cuts.items

-- the rows of the cuts, and what is said over them
pub record RootMeans (m : Problem) (r : Root) : Type 0 where
  pub rows : List LinRow
  pub cuts : HaveRootRows m (root_cuts r) rows
  pub says : SaysOf m r.says (root_cuts r) rows r.leaf

-- ---- texts
-- in the first version no row of a least or a late lot has a name, and a plain problem has none
abbrev pub IsVersionFor : Problem → ℕ → Type 0
IsVersionFor m version = version ≡ FIRST_CERT_VERSION → IsPlain m

-- each line of the cuts is one of a certificate's text, within its limits, in each version
abbrev pub HaveCutLines : List CutShape → Type 0
HaveCutLines cuts = (version : ℕ) → AreLines version (all_cut_values cuts)

-- and so is each line of the leaf, where there is one, in a version for the problem
abbrev pub HasLeafLines : Problem → Option Leaf → Type 0
HasLeafLines m leaf = (version : ℕ) → IsVersionFor m version → IfSome leaf (λ a. AreLines version (leaf_values (leaf_shape a)))

pub record AreWritable (m : Problem) (cuts : List CutShape) (leaf : Option Leaf) : Type 0 where
  pub cut_lines : HaveCutLines cuts
  pub leaf_lines : HasLeafLines m leaf

-- ---- what is said of plans
abbrev pub BoundsPlans : Problem → RootSays → Type 0
BoundsPlans m root.Uncoupled = ⊤
BoundsPlans m (root.Skipped cells) = ⊤
BoundsPlans m (root.Closed c) = IsFloor m c
BoundsPlans m root.Empty = IsImpossible m
BoundsPlans m (root.Stopped round) = ⊤
BoundsPlans m (root.Passed round at) = ⊤

-- the problem has largest totals and weights, so that what is said of all of them is said of some
abbrev pub HasFigures : Problem → Type 0
HasFigures m = (total : ℕ → ℕ) × (weight : ℕ → ℕ → ℕ) × AreLargestTotals m total × AreWeights (bill_of m) weight
