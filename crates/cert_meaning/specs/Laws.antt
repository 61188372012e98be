-- Why the claim of an accepted certificate is true, and that leaves and cuts mean one thing.
use Rattle.std.specs.Prelude.{◌≡◌, ◌↔◌, ℕ, ◌≤◌, ◌<◌, pos, Bool, List, [], ◌∷◌, ◌++◌, length, slice_index_or, take, Option}
use Rattle.std.specs.List.{All}
use Rattle.lot_sizing.specs.Problem.{IsWithinLimits, Problem}
use Rattle.lot_sizing.specs.Plan.{Plan, IsFeasible}
use Rattle.lot_sizing.specs.Bill.{AreWeights, bill_of}
use Rattle.lot_sizing.specs.Totals.{AreLargestTotals, IsRanking}
use Rattle.echelon.specs.declared.net.EchelonItem.{EchelonItem}
use Rattle.echelon.specs.Weights.{IsEchelonOf}
use Rattle.lin_rows.specs.declared.bound.Bound.{Bound}
use Rattle.lin_rows.specs.declared.column.Column.{Column}
use Rattle.lin_rows.specs.Combining.{AllHold, AreOfProblem}
use Rattle.lin_rows.specs.Columns.{value_in}
use Rattle.lin_rows.specs.Rows.{LinRow, whole_point}
use Rattle.echelon_rows.specs.Rows.{echelon_in, priced}
use Rattle.ls_cuts.specs.Rows.{ls_row}
use Rattle.facility_form.specs.PriceRow.{price_row}
use Rattle.backlog_dp.specs.BlockRow.{block_row}
use Rattle.cert_lines.specs.declared.parts.Part.{Part}
use Rattle.cert_lines.specs.Shapes.{CutShape, FarkasLeaf, LeafShape, LinearLeaf, ListShape, ReducedLeaf}
use Rattle.certificate.specs.Shapes.{Shape}
use Rattle.cert_trees.specs.Ranges.{IsChoice, IsWithin, Ranges, whole_ranges}
use Rattle.cert_trees.specs.Paths.{AreChoices, AreMet}
use Rattle.cert_meaning.specs.declared.says.LeafSays.{LeafSays}
use Rattle.cert_meaning.specs.declared.says.LeafSays.TheVariants.{AtLeast, NoPlan}
use Rattle.cert_meaning.specs.Named.{Named, names}
use Rattle.cert_meaning.specs.Lists.{HasEach, all_parts}
use Rattle.cert_meaning.specs.Says.{IsRanked, IsSoOf, Says}
use Rattle.cert_meaning.specs.CutRows.{AreCutRows, IsCutRow, echelon_at}
use Rattle.cert_meaning.specs.Accepts.{AreSmallCuts, Fits, IsSmallCut, IsAccepted, IsTrueOf, IsTrueWithin}

-- of each problem in which no item is its own component, with its largest totals and its weights
abbrev pub OfProblems : ((m : Problem) (total : ℕ → ℕ) (weight : ℕ → ℕ → ℕ) → Type 0) → Type 0
OfProblems P =
    (m : Problem) (rank total : ℕ → ℕ) (weight : ℕ → ℕ → ℕ) → 1 ≤ m.periods → IsRanking m rank → AreLargestTotals m total → AreWeights (bill_of m) weight
    → P m total weight

-- what an accepted certificate claims is true of all plans
abbrev pub AcceptedIsTrue : Type 0
AcceptedIsTrue =
    OfProblems (λ m total weight. (c : Shape) (given : Option Plan) → IsAccepted m total weight (whole_ranges total) c given → IsTrueOf m c.claim given)

-- and over ranges, of the plans within them
abbrev pub AcceptedOverRanges : Type 0
AcceptedOverRanges =
    OfProblems (λ m total weight. (ranges : Ranges) (c : Shape) (given : Option Plan) → IsAccepted m total weight ranges c given → IsTrueWithin m ranges c.claim given)

-- the rows hold at every feasible plan
abbrev pub HoldAtPlans : Problem → List LinRow → Type 0
HoldAtPlans m rows = (p : Plan) → IsFeasible m p → AllHold (whole_point (value_in p)) rows

-- the rows of cuts do, and the problem has their columns
abbrev pub CutsHold : Type 0
CutsHold =
    OfProblems (λ m total weight. (cuts : List CutShape) (rows : List LinRow) → AreCutRows m total weight [] cuts rows → HoldAtPlans m rows × AreOfProblem m rows)

-- what a leaf says is so of each feasible plan within the ranges that meets its path, where the rows of the cuts hold
abbrev pub LeavesBound : Type 0
LeavesBound =
    (m : Problem) (rank total : ℕ → ℕ) (cuts : List LinRow) (path : List Bound) (ranges : Ranges) (leaf : LeafShape) (says : LeafSays)
    → 1 ≤ m.periods → IsRanking m rank → AreLargestTotals m total → HoldAtPlans m cuts → AreOfProblem m cuts → AreChoices m path
    → Says (names m total cuts path) ranges leaf says
    → (p : Plan) → IsFeasible m p → IsWithin m ranges p → AreMet (value_in p) path → IsSoOf m says p

-- a leaf says one thing
abbrev pub SaysAreOne : Type 0
SaysAreOne =
    (n : Named) (ranges : Ranges) (leaf : LeafShape) (a b : LeafSays) → Says n ranges leaf a → Says n ranges leaf b → a ≡ b

-- without groups a leaf over reduced costs says what linear duality says of its parts, and with den 0 what Farkas' lemma says of them
abbrev pub PlainIsLinear : Type 0
PlainIsLinear =
    (n : Named) (ranges : Ranges) (parts : List Part) (lists : List ListShape) → IsRanked n.problem n.total → All (HasEach n) lists
    → ((den bound : ℕ) → Says n ranges (ReducedLeaf den parts lists []) (AtLeast bound) ↔ Says n ranges (LinearLeaf (pos den) (all_parts parts lists)) (AtLeast bound))
    × (Says n ranges (ReducedLeaf 0 parts lists []) NoPlan ↔ Says n ranges (FarkasLeaf (all_parts parts lists)) NoPlan)

-- cuts have one list of rows
abbrev pub CutRowsAreOne : Type 0
CutRowsAreOne =
    (m : Problem) (total : ℕ → ℕ) (weight : ℕ → ℕ → ℕ) (cuts : List CutShape) (rows others : List LinRow)
    → IsWithinLimits m → AreCutRows m total weight [] cuts rows → AreCutRows m total weight [] cuts others → rows ≡ others

-- cuts have as many rows, and the row of each is made of those of the earlier ones
pub record AreRowsByPlaces (m : Problem) (total : ℕ → ℕ) (weight : ℕ → ℕ → ℕ) (cuts : List CutShape) (rows : List LinRow) : Type 0 where
  pub as_many : length rows ≡ length cuts
  pub each : (k : ℕ) (c : CutShape) (r : LinRow) → k < length cuts → IsCutRow m total weight (take k rows) (slice_index_or cuts k c) (slice_index_or rows k r)
  pub first : (k : ℕ) → AreCutRows m total weight [] (take k cuts) (take k rows)

abbrev pub CutRowsByPlaces : Type 0
CutRowsByPlaces =
    (m : Problem) (total : ℕ → ℕ) (weight : ℕ → ℕ → ℕ) (cuts : List CutShape) (rows : List LinRow)
    → AreCutRows m total weight [] cuts rows → AreRowsByPlaces m total weight cuts rows

-- with one cut more, they have its row more
abbrev pub CutRowsGoOn : Type 0
CutRowsGoOn =
    (m : Problem) (total : ℕ → ℕ) (weight : ℕ → ℕ → ℕ) (cuts : List CutShape) (rows : List LinRow) (c : CutShape) (r : LinRow)
    → AreCutRows m total weight [] cuts rows → IsCutRow m total weight rows c r
    → AreCutRows m total weight [] (cuts ++ (c ∷ [])) (rows ++ (r ∷ []))

-- and their sums stay small where its sums are
abbrev pub SmallCutsGoOn : Type 0
SmallCutsGoOn =
    (m : Problem) (total : ℕ → ℕ) (cuts : List CutShape) (rows : List LinRow) (c : CutShape) (r : LinRow)
    → AreSmallCuts m total [] cuts rows → IsSmallCut m total rows c
    → AreSmallCuts m total [] (cuts ++ (c ∷ [])) (rows ++ (r ∷ []))

-- what is made of the echelon that a program has is what is made of the weights: the item by itself with prices, and each row
abbrev pub EchelonRowsAreOne : Type 0
EchelonRowsAreOne =
    (m : Problem) (weight : ℕ → ℕ → ℕ) (i : ℕ) (e : EchelonItem) → IsEchelonOf m weight i e
    → ((l : ℕ) (chosen : ℕ → Bool) → l ≤ m.periods → ls_row (echelon_in e) l chosen ≡ ls_row (echelon_at m weight i) l chosen)
    × ((price unit hold back : List ℕ) → price_row (echelon_in e) price unit hold back ≡ price_row (echelon_at m weight i) price unit hold back)
    × ((setup unit hold back steps : List ℕ) → block_row (echelon_in e) setup unit hold back steps ≡ block_row (echelon_at m weight i) setup unit hold back steps)
    × ((setup unit hold back : List ℕ) → priced (echelon_in e) setup unit hold back ≡ priced (echelon_at m weight i) setup unit hold back)

-- ranges that agree at quantities and setups
abbrev pub AreSameRanges : Problem → Ranges → Ranges → Type 0
AreSameRanges m r s = (c : Column) → IsChoice m c → r c ≡ s c

-- two ways to give the largest totals and the weights of a problem in which no item is its own component
pub record AreBoth (m : Problem) (a b : ℕ → ℕ) (v w : ℕ → ℕ → ℕ) : Type 0 where
  pub rank : ℕ → ℕ
  pub ranks : IsRanking m rank
  pub totals : AreLargestTotals m a × AreLargestTotals m b
  pub weights : AreWeights (bill_of m) v × AreWeights (bill_of m) w

-- a certificate that is accepted by one of them is accepted by the other
abbrev pub AcceptedByBoth : Type 0
AcceptedByBoth =
    (m : Problem) (a b : ℕ → ℕ) (v w : ℕ → ℕ → ℕ) → AreBoth m a b v w → (r s : Ranges) → AreSameRanges m r s → (c : Shape) (given : Option Plan)
    → IsAccepted m a v r c given → IsAccepted m b w s c given

-- and one that fits by one of them fits by the other
abbrev pub FitsByBoth : Type 0
FitsByBoth =
    (m : Problem) (a b : ℕ → ℕ) (v w : ℕ → ℕ → ℕ) → AreBoth m a b v w → (r : Ranges) (c : Shape) (given : Option Plan)
    → (is : IsAccepted m a v r c given) → Fits m a is.rows c → Fits m b is.rows c

-- the whole ranges agree
abbrev pub WholeByBoth : Type 0
WholeByBoth =
    (m : Problem) (a b : ℕ → ℕ) (v w : ℕ → ℕ → ℕ) → AreBoth m a b v w → AreSameRanges m (whole_ranges a) (whole_ranges b)
