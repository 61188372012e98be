-- Why a certificate is refused, and on which line.
use Rattle.std.specs.Prelude.{◌≡◌, ◌≢◌, ◌⊎◌, ℕ, ◌+◌, ◌<◌, List, [], length, slice_index_or, take, Option, Some, None, Err, ⊤}
use Rattle.lot_sizing.specs.Problem.{Problem}
use Rattle.lot_sizing.specs.Bill.{AreWeights, bill_of}
use Rattle.lot_sizing.specs.Totals.{AreLargestTotals}
use Rattle.lot_sizing.specs.Plan as terms
use Rattle.plan_rules.specs.declared.plan.Plan.{Plan}
use Rattle.plan_rules.specs.Held.{AllFit, plan_of}
use Rattle.plan_rules.specs.Broken.{IsJudged}
use Rattle.lin_rows.specs.declared.bound.Bound.{Bound}
use Rattle.lin_rows.specs.Rows.{LinRow}
use Rattle.cert_lines.specs.declared.parts.Claim.{Claim}
use Rattle.cert_lines.specs.declared.parts.Claim.TheVariants.{Optimal, Infeasible, Bound as BoundOf}
use Rattle.cert_lines.specs.Shapes.{CutShape, LeafShape, LsCut}
use Rattle.certificate.specs.declared.line_numbers.TheConstants.{CLAIM_LINE, FIRST_CUT_LINE}
use Rattle.certificate.specs.Shapes.{End, Shape, Split, TreeShape}
use Rattle.certificate.specs.Values.{all_cut_values, body_values, tree_values}
use Rattle.cert_trees.specs.Ranges.{Ranges, WithTotals, whole_ranges}
use Rattle.cert_trees.specs.Trees.{EachLeaf, IsSplit, IsSplitTree, high_path, low_path}
use Rattle.cert_meaning.specs.declared.says.LeafSays.TheVariants.{AtLeast}
use Rattle.cert_meaning.specs.Named.{names}
use Rattle.cert_meaning.specs.Says.{Says}
use Rattle.cert_meaning.specs.CutRows.{AreCutRows}
use Rattle.cert_meaning.specs.Accepts.{AreSmallCuts, Fits, IsAccepted, IsEnough, IsSmallLeaf, SaysEnough}
use Rattle.cert_checker.specs.declared.fault.CheckFault.{CheckFault}
use Rattle.cert_checker.specs.declared.fault.CheckFault.TheVariants as fault
use Rattle.cert_checker.specs.declared.fault.Why.{Why}
use Rattle.cert_checker.specs.declared.fault.Why.TheVariants as why
use Rattle.cert_checker.specs.Cuts.{IsCutFault, OfProblem}
use Rattle.cert_checker.specs.Leaves.{HasDenominator, IfRejected, IsLeafFault}

-- the plan that was given, of the grids that a program has of it
abbrev pub plan_given : Option Plan → Option terms.Plan
plan_given None = None
plan_given (Some p) = Some (plan_of p)

-- the line of the claim, and that of the first cut
abbrev pub line_at_claim : ℕ
line_at_claim = CLAIM_LINE

abbrev pub first_line : ℕ
first_line = FIRST_CUT_LINE

-- a claim of an optimal cost comes with a feasible plan of this cost
abbrev pub ComesWith : Problem → Claim → Option Plan → Type 0
ComesWith m (Optimal c) (Some p) = AllFit m p × terms.IsFeasible m (plan_of p) × (terms.cost m (plan_of p) ≡ c)
ComesWith m (Optimal c) None = ⊥
ComesWith m Infeasible given = ⊤
ComesWith m (BoundOf c) given = ⊤

-- an optimal claim comes with no plan, with one that breaks a rule, or with one of another cost
abbrev pub IsOptimalFault : Problem → ℕ → Option Plan → Why → Type 0
IsOptimalFault m c None why.PlanMissing = ⊤
IsOptimalFault m c (Some p) (why.Plan broken) = IsJudged m p (Err broken)
IsOptimalFault m c (Some p) (why.Costs amount claimed) =
    AllFit m p × terms.IsFeasible m (plan_of p) × (terms.cost m (plan_of p) ≡ amount) × (claimed ≡ c) × (amount ≢ c)
IsOptimalFault m c _ _ = ⊥

abbrev pub IsPlanFault : Problem → Claim → Option Plan → (at : ℕ) → Why → Type 0
IsPlanFault m (Optimal c) given at w = (at ≡ line_at_claim) × IsOptimalFault m c given w
IsPlanFault m Infeasible given at w = ⊥
IsPlanFault m (BoundOf c) given at w = ⊥

-- what is read past the last cut
abbrev pub no_cut : CutShape
no_cut = LsCut 0 0 []

-- the first cut that has no row or whose sums are large, on the lines after those of the cuts before it
pub record IsCutsFault (m : Problem) (total : ℕ → ℕ) (weight : ℕ → ℕ → ℕ) (cuts : List CutShape) (at : ℕ) (w : Why) : Type 0 where
  pub place : ℕ
  pub exists : place < length cuts
  pub rows : List LinRow
  pub before : AreCutRows m total weight [] (take place cuts) rows
  pub small : AreSmallCuts m total [] (take place cuts) rows
  pub fault : IsCutFault m total weight rows (slice_index_or cuts place no_cut) (first_line + length (all_cut_values (take place cuts))) at w

-- what the nodes of a tree are looked at with
pub record Ground : Type 0 where
  pub problem : Problem
  pub total : ℕ → ℕ
  pub rows : List LinRow
  pub ranges : Ranges
  pub claim : Claim

abbrev pub ground : Problem → (ℕ → ℕ) → List LinRow → Claim → Ground
ground m total rows claim = record { problem = m; total = total; rows = rows; ranges = whole_ranges total; claim = claim }

-- a leaf says enough, and its sums are small
abbrev pub IsGoodLeaf : Ground → List Bound → LeafShape → Type 0
IsGoodLeaf g path leaf =
    SaysEnough g.problem g.total g.rows g.ranges g.claim path leaf × IsSmallLeaf (names g.problem g.total g.rows path) leaf

-- the branches split, and the leaves are good
pub record IsGoodTree (g : Ground) (path : List Bound) (t : TreeShape) : Type 0 where
  pub split : IsSplitTree g.problem g.ranges path t
  pub leaves : EachLeaf (IsGoodLeaf g) path t

-- a leaf whose sums are small says this much, which is not enough
pub record IsShortLeaf (g : Ground) (path : List Bound) (leaf : LeafShape) (amount : ℕ) : Type 0 where
  pub says : Says (names g.problem g.total g.rows path) g.ranges leaf (AtLeast amount)
  pub small : IsSmallLeaf (names g.problem g.total g.rows path) leaf
  pub short : IsEnough g.claim (AtLeast amount) → ⊥

-- the denominators of a tree's leaves are at least 1
abbrev pub HaveDenominators : TreeShape → Type 0
HaveDenominators (Split c n low high) = HaveDenominators low × HaveDenominators high
HaveDenominators (End leaf) = HasDenominator leaf

-- why a leaf on this line isn't good: it says nothing, or not enough
abbrev pub IsNodeFault : Ground → List Bound → LeafShape → (line at : ℕ) → Why → Type 0
IsNodeFault g path leaf line at w =
    IsLeafFault (names g.problem g.total g.rows path) g.ranges leaf line at w
    ⊎ ((amount : ℕ) × (w ≡ why.Short amount) × (at ≡ line) × IsShortLeaf g path leaf amount)

-- why a tree that starts on this line isn't good: its first node that isn't, a branch before its low side and that before its high side
abbrev pub IsTreeFault : Ground → List Bound → TreeShape → (line at : ℕ) → Why → Type 0
IsTreeFault g path (Split c n low high) line at w =
    ((at ≡ line) × (w ≡ why.Range) × (IsSplit g.problem g.ranges path c n → ⊥))
    ⊎ (IsSplit g.problem g.ranges path c n
    × (IsTreeFault g (low_path path c n) low (line + 1) at w
    ⊎ (IsGoodTree g (low_path path c n) low
    × IsTreeFault g (high_path path c n) high (line + 1 + length (tree_values low)) at w)))
IsTreeFault g path (End leaf) line at w = IsNodeFault g path leaf line at w

-- the cuts have these rows, and their sums are small
pub record AreGoodCuts (m : Problem) (total : ℕ → ℕ) (weight : ℕ → ℕ → ℕ) (cuts : List CutShape) (rows : List LinRow) : Type 0 where
  pub are : AreCutRows m total weight [] cuts rows
  pub small : AreSmallCuts m total [] cuts rows

-- the cuts are good, and the first node that isn't is on this line
pub record IsTreesFault (m : Problem) (total : ℕ → ℕ) (weight : ℕ → ℕ → ℕ) (c : Shape) (at : ℕ) (w : Why) : Type 0 where
  pub rows : List LinRow
  pub cuts : AreGoodCuts m total weight c.cuts rows
  pub fault : IsTreeFault (ground m total rows c.claim) [] c.tree (first_line + length (all_cut_values c.cuts)) at w

-- why a certificate is refused: the plan comes first, then the cuts, then the tree
abbrev pub IsCheckFault : Problem → (ℕ → ℕ) → (ℕ → ℕ → ℕ) → Shape → Option Plan → (at : ℕ) → Why → Type 0
IsCheckFault m total weight c given at w =
    IsPlanFault m c.claim given at w
    ⊎ (ComesWith m c.claim given × (IsCutsFault m total weight c.cuts at w ⊎ IsTreesFault m total weight c at w))

-- a certificate is accepted with the plan that was given, and its sums are small
pub record IsCertified (m : Problem) (total : ℕ → ℕ) (weight : ℕ → ℕ → ℕ) (c : Shape) (given : Option Plan) : Type 0 where
  pub accepted : IsAccepted m total weight (whole_ranges total) c (plan_given given)
  pub fits : Fits m total accepted.rows c
  pub plan : ComesWith m c.claim given

-- how many lines the text of a certificate has
abbrev pub line_count : Shape → ℕ
line_count c = 3 + length (body_values c)

-- ---- what calls promise, whatever the largest totals and the weights are
abbrev pub HaveGoodRows : Problem → List CutShape → List LinRow → Type 0
HaveGoodRows m cuts rows = OfProblem m (λ total weight. AreGoodCuts m total weight cuts rows)

abbrev pub CutsHaveFault : Problem → List CutShape → CheckFault → Type 0
CutsHaveFault m cuts f = IfRejected f (λ at w. OfProblem m (λ total weight. IsCutsFault m total weight cuts at w))

abbrev pub LeafIsGood : Problem → List LinRow → Claim → List Bound → LeafShape → Type 0
LeafIsGood m rows claim path leaf = WithTotals m (λ total. IsGoodLeaf (ground m total rows claim) path leaf)

abbrev pub LeafHasFault : Problem → List LinRow → Claim → List Bound → LeafShape → (line : ℕ) → CheckFault → Type 0
LeafHasFault m rows claim path leaf line f = IfRejected f (λ at w. WithTotals m (λ total. IsNodeFault (ground m total rows claim) path leaf line at w))

abbrev pub TreeIsGood : Problem → List LinRow → Claim → List Bound → TreeShape → Type 0
TreeIsGood m rows claim path t = WithTotals m (λ total. IsGoodTree (ground m total rows claim) path t)

abbrev pub TreeHasFault : Problem → List LinRow → Claim → List Bound → TreeShape → (line : ℕ) → CheckFault → Type 0
TreeHasFault m rows claim path t line f = IfRejected f (λ at w. WithTotals m (λ total. IsTreeFault (ground m total rows claim) path t line at w))

abbrev pub IsGoodCertificate : Problem → Shape → Option Plan → Type 0
IsGoodCertificate m c given = OfProblem m (λ total weight. IsCertified m total weight c given)

abbrev pub HasFault : Problem → Shape → Option Plan → CheckFault → Type 0
HasFault m c given f = IfRejected f (λ at w. OfProblem m (λ total weight. IsCheckFault m total weight c given at w))

-- a certificate that is accepted and whose sums are small, for some largest totals and weights, is refused only where memory ran out
abbrev pub IsNeverRefused : Problem → Shape → Option Plan → CheckFault → Type 0
IsNeverRefused m c given f =
    (total : ℕ → ℕ) (weight : ℕ → ℕ → ℕ) → AreLargestTotals m total → AreWeights (bill_of m) weight → IsCertified m total weight c given → f ≡ fault.Memory
