-- The linear relaxation without cuts on the path to a node, and what is said of it.
use Rattle.std.specs.Prelude.{◌≡◌, ◌⊎◌, ℕ, ◌*◌, ◌≤◌, ℤ, List, [], ◌++◌, length, ⊤}
use Rattle.std.specs.List.{All}
use Rattle.rational.specs.Rational.{ℚ}
use Rattle.lot_sizing.specs.Problem.{IsPlain, Problem}
use Rattle.lin_rows.specs.declared.base.RowName.{RowName}
use Rattle.lin_rows.specs.declared.base.RowName.TheVariants as row
use Rattle.lin_rows.specs.declared.bound.Bound.{Bound}
use Rattle.lin_rows.specs.Bounds.{MeetsBound}
use Rattle.lin_rows.specs.Costs.{point_cost}
use Rattle.lin_rows.specs.Rows.{LinPoint}
use Rattle.cert_lines.specs.Limits.{IsVersion}
use Rattle.cert_lines.specs.Shapes.{LeafShape, LinearLeaf, FarkasLeaf, PointLeaf, ReducedLeaf, leaf_shape}
use Rattle.cert_lines.specs.declared.limits.TheConstants.{FIRST_CERT_VERSION}
use Rattle.certificate.specs.Values.{AreLines, leaf_values}
use Rattle.tableau.specs.declared.outcome.Outcome.{Outcome}
use Rattle.tableau.specs.declared.outcome.Outcome.TheVariants as outcome
use Rattle.tableau.specs.Denominators.{PassWhole}
use Rattle.tableau.specs.Leaves.{AreOfLeaf}
use Rattle.tableau.specs.Outcomes.{IsOutcome, number_at}
use Rattle.tableau.specs.Program.{Program}
use Rattle.cert_trees.specs.Ranges.{WithTotals}
use Rattle.cert_meaning.specs.declared.says.LeafSays.{LeafSays}
use Rattle.cert_meaning.specs.declared.says.LeafSays.TheVariants as leaf
use Rattle.cert_meaning.specs.Named.{Named, names}
use Rattle.cert_meaning.specs.Parts.{AreSmall}
use Rattle.cert_checker.specs.Leaves.{HasDenominator, LeafIsSmall, LeafSaysThis}
use Rattle.lp_relaxation.specs.Relaxation.{MeetsBaseRows}
use Rattle.lp_relaxation.specs.declared.program.Side.{Side}
use Rattle.lp_relaxation.specs.Names.{base_names, names_to}
use Rattle.lp_relaxation.specs.Says.{IsProgramOf, sides_named}
use Rattle.lp_relaxation.specs.Sides.{parts_of}
use Rattle.lp_relaxation.specs.declared.limits.TheConstants.{MAX_PIVOTS}
use Rattle.lp_bounds.specs.declared.says.Exempt.{Exempt}
use Rattle.lp_bounds.specs.declared.says.Exempt.TheVariants.{Pivots, Cell, Leaf}
use Rattle.lp_bounds.specs.declared.says.PathSays.{PathSays}
use Rattle.lp_bounds.specs.declared.says.PathSays.TheVariants.{AtLeast, NoPoint, Exempt as ExemptFor}

-- ---- the program
-- what names mean at the node: the problem's rows and the bounds of the path, without cuts
abbrev pub on_path : Problem → (ℕ → ℕ) → List Bound → Named
on_path m total path = names m total [] path

-- all base rows in the order of the root's first round, and then so many bounds of the path in their order
abbrev pub path_names : Problem → ℕ → List RowName
path_names m bounds = base_names m ++ names_to bounds (λ k. row.Path k)

abbrev pub IsPathProgram : Problem → (ℕ → ℕ) → List Bound → Program → Type 0
IsPathProgram m total path p = IsProgramOf (on_path m total path) (path_names m (length path)) p

-- the sides of rows that its rows are
abbrev pub path_sides : Problem → (ℕ → ℕ) → List Bound → List Side
path_sides m total path = sides_named (on_path m total path) (path_names m (length path))

-- ---- a number, and the leaf that says it
-- some point meets all base rows and each bound of the path, and costs at most the number; both sides are multiplied by the point's denominator
pub record IsMetBy (m : Problem) (total : ℕ → ℕ) (path : List Bound) (bound : ℕ) : Type 0 where
  pub point : LinPoint
  pub base : MeetsBaseRows m total point
  pub bounds : All (MeetsBound point) path
  pub cost : point_cost m point.values ≤ bound * point.den

-- whichever largest totals are taken
abbrev pub IsMetAt : Problem → List Bound → ℕ → Type 0
IsMetAt m path bound = WithTotals m (λ total. IsMetBy m total path bound)

-- the lines of the leaf are within the limits, in texts of the latest version, and in those of the first where the problem is plain
abbrev pub IsWritableLeaf : Problem → LeafShape → Type 0
IsWritableLeaf m leaf = (version : ℕ) → IsVersion version → (version ≡ FIRST_CERT_VERSION → IsPlain m) → AreLines version (leaf_values leaf)

-- without cuts the leaf says this on the path; its sums are small, and it can be written
pub record IsGoodLeaf (m : Problem) (path : List Bound) (leaf : LeafShape) (says : LeafSays) : Type 0 where
  pub den : HasDenominator leaf
  pub said : LeafSaysThis m [] path leaf says
  pub small : LeafIsSmall m [] path leaf
  pub writable : IsWritableLeaf m leaf

-- a leaf by linear duality that says a number
abbrev pub SaysAtLeast : Problem → List Bound → LeafShape → ℕ → Type 0
SaysAtLeast m path (LinearLeaf den parts) bound = IsGoodLeaf m path (LinearLeaf den parts) (leaf.AtLeast bound)
SaysAtLeast m path (FarkasLeaf parts) bound = ⊥
SaysAtLeast m path PointLeaf bound = ⊥
SaysAtLeast m path (ReducedLeaf den parts lists groups) bound = ⊥

-- a leaf by Farkas' lemma
abbrev pub SaysNone : Problem → List Bound → LeafShape → Type 0
SaysNone m path (LinearLeaf den parts) = ⊥
SaysNone m path (FarkasLeaf parts) = IsGoodLeaf m path (FarkasLeaf parts) leaf.NoPlan
SaysNone m path PointLeaf = ⊥
SaysNone m path (ReducedLeaf den parts lists groups) = ⊥

-- ---- why there is no leaf
-- so ends the run over the program, by the least-index rule from its slack basis
pub record EndsPathRun (m : Problem) (total : ℕ → ℕ) (path : List Bound) (end : Outcome) : Type 0 where
  pub program : Program
  pub is_program : IsPathProgram m total path program
  pub run : IsOutcome program MAX_PIVOTS end

-- the multipliers of a least point, or those that leave no point
abbrev pub HasMultipliers : Outcome → List ℚ → Type 0
HasMultipliers (outcome.Least point multipliers value) ys = ys ≡ multipliers.items
HasMultipliers (outcome.Empty multipliers) ys = ys ≡ multipliers.items
HasMultipliers (outcome.Stopped made) ys = ⊥
HasMultipliers (outcome.Passed pivot row column) ys = ⊥

-- a sum of absolute values of the leaf that they make over their least common denominator isn't small
abbrev pub IsLargeLeaf : Problem → (ℕ → ℕ) → List Bound → List ℚ → Type 0
IsLargeLeaf m total path ys =
    (den : ℕ) × (z : ℕ → ℤ) × AreOfLeaf (length ys) (number_at ys) den z × (AreSmall (on_path m total path) (parts_of (path_sides m total path) z) → ⊥)

-- the leaf has a number or a sum that isn't small
pub record HasLargeLeaf (m : Problem) (total : ℕ → ℕ) (path : List Bound) : Type 0 where
  pub end : Outcome
  pub ends : EndsPathRun m total path end
  pub multipliers : List ℚ
  pub has : HasMultipliers end multipliers
  pub large : PassWhole multipliers ⊎ IsLargeLeaf m total path multipliers

-- the run has more pivots than it may; a ratio or an update of this cell doesn't fit; or the leaf's numbers don't
abbrev pub IsExemptBy : Problem → (ℕ → ℕ) → List Bound → Exempt → Type 0
IsExemptBy m total path Pivots = EndsPathRun m total path (outcome.Stopped MAX_PIVOTS)
IsExemptBy m total path (Cell pivot row column) = EndsPathRun m total path (outcome.Passed pivot row column)
IsExemptBy m total path Leaf = HasLargeLeaf m total path

abbrev pub IsExempt : Problem → List Bound → Exempt → Type 0
IsExempt m path cause = WithTotals m (λ total. IsExemptBy m total path cause)

-- ---- answers
abbrev pub IfAtLeast : (LeafShape → ℕ → Type 0) → PathSays → Type 0
IfAtLeast P (AtLeast a bound) = P (leaf_shape a) bound
IfAtLeast P (NoPoint a) = ⊤
IfAtLeast P (ExemptFor cause) = ⊤

abbrev pub IfNoPoint : (LeafShape → Type 0) → PathSays → Type 0
IfNoPoint P (AtLeast a bound) = ⊤
IfNoPoint P (NoPoint a) = P (leaf_shape a)
IfNoPoint P (ExemptFor cause) = ⊤

abbrev pub IfExempt : (Exempt → Type 0) → PathSays → Type 0
IfExempt P (AtLeast a bound) = ⊤
IfExempt P (NoPoint a) = ⊤
IfExempt P (ExemptFor cause) = P cause
