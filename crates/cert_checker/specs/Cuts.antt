-- Why a cut has no row, and on which line.
use Rattle.std.specs.Prelude.{◌≡◌, ◌⊎◌, ℕ, ◌≤◌, Bool, List, [], length, ⊤}
use Rattle.lot_sizing.specs.Problem.{AllAtMost, IsSeries, Problem, item_count}
use Rattle.lot_sizing.specs.Bill.{AreWeights, bill_of}
use Rattle.lot_sizing.specs.Totals.{AreLargestTotals}
use Rattle.lot_sizing.specs.Single.{Single, position_count}
use Rattle.lot_sizing.specs.Echelon.{IsLeadFree}
use Rattle.std.specs.List.{All}
use Rattle.lot_sizing.specs.Plan.{Plan, IsFeasible}
use Rattle.echelon.specs.declared.net.EchelonItem.{EchelonItem}
use Rattle.echelon.specs.Views.{IsEchelonWithinBounds}
use Rattle.lin_rows.specs.declared.base.RowName.{RowName}
use Rattle.lin_rows.specs.declared.fault.CutFault.{CutFault}
use Rattle.lin_rows.specs.declared.fault.CutFault.TheVariants.{Length, TooLarge, Potential, Sign, Memory}
use Rattle.lin_rows.specs.Columns.{IsColumn, value_in}
use Rattle.lin_rows.specs.Combining.{AllHold, AreOfProblem}
use Rattle.lin_rows.specs.Rows.{HoldsIn, LinRow, whole_point}
use Rattle.round_cuts.specs.declared.rounding.TheConstants.{MAX_DIVISOR}
use Rattle.echelon_rows.specs.declared.limits.TheConstants.{MAX_PRICE, MAX_STEP}
use Rattle.echelon_rows.specs.Plans.{IsOfItem, IsPlanOf}
use Rattle.echelon_rows.specs.Rows.{ArePriced, priced}
use Rattle.backlog_dp.specs.Broken.{IsFirstBroken}
use Rattle.cert_lines.specs.declared.parts.Part.{Part}
use Rattle.cert_lines.specs.Shapes.{BlockLists, CutShape, LsCut, PriceCut, BlockCut, RoundCut, PriceLists}
use Rattle.cert_trees.specs.Ranges.{WithTotals}
use Rattle.cert_meaning.specs.Named.{Named, names, row_named}
use Rattle.cert_meaning.specs.Parts.{AreParts, AreSmall, rows_of}
use Rattle.cert_meaning.specs.CutRows.{IsCutRow, echelon_at}
use Rattle.cert_checker.specs.declared.fault.Why.{Why}
use Rattle.cert_checker.specs.declared.fault.Why.TheVariants as why
use Rattle.cert_checker.specs.declared.fault.CheckFault.{CheckFault}
use Rattle.cert_checker.specs.declared.fault.CheckFault.TheVariants as fault
use Rattle.cert_checker.specs.Leaves.{IfRejected, IsFirstWrong}

-- whatever the largest totals and the weights are; where no item is its own component, there are some
abbrev pub OfProblem : Problem → ((ℕ → ℕ) → (ℕ → ℕ → ℕ) → Type 0) → Type 0
OfProblem m P =
    (total : ℕ → ℕ) (weight : ℕ → ℕ → ℕ) → AreLargestTotals m total → AreWeights (bill_of m) weight → P total weight

-- an item of the problem
abbrev pub IsItem : Problem → ℕ → Type 0
IsItem m i = (1 ≤ i) × (i ≤ item_count m)

-- the numbers and lists of a cut are in their ranges, but for what its echelon asks of them
pub record IsLsForm (m : Problem) (item last : ℕ) (chosen : List Bool) : Type 0 where
  pub item_exists : IsItem m item
  pub low : 1 ≤ last
  pub high : last ≤ m.periods
  pub size : length chosen ≡ last

pub record IsPriceForm (m : Problem) (item : ℕ) (a : PriceLists) : Type 0 where
  pub item_exists : IsItem m item
  pub price : IsSeries m.periods MAX_PRICE a.price
  pub prices : ArePriced m.periods a.unit a.hold a.back

pub record IsBlockForm (m : Problem) (item : ℕ) (a : BlockLists) : Type 0 where
  pub item_exists : IsItem m item
  pub setup : IsSeries m.periods MAX_PRICE a.setup
  pub prices : ArePriced m.periods a.unit a.hold a.back
  pub steps : AllAtMost MAX_STEP a.steps

-- the cut's item by itself, with its prices
abbrev pub single_priced : Problem → (ℕ → ℕ → ℕ) → ℕ → BlockLists → Single
single_priced m weight item a = priced (echelon_at m weight item) a.setup a.unit a.hold a.back

-- a potential for each position
abbrev pub HasSteps : Problem → (ℕ → ℕ → ℕ) → ℕ → BlockLists → Type 0
HasSteps m weight item a = length a.steps ≡ position_count (single_priced m weight item a)

-- an (l,S) or price cut of this form: the form comes first, then the lead times
abbrev pub IsFormFault : Type 0 → Type 0 → (line at : ℕ) → Why → Type 0
IsFormFault Form LeadFree line at why.Range = (at ≡ line) × (Form → ⊥)
IsFormFault Form LeadFree line at why.Lead = (at ≡ line) × Form × (LeadFree → ⊥)
IsFormFault Form LeadFree line at _ = ⊥

-- of a block cut, the number of potentials is looked at where the item is lead-free, before the potentials are
abbrev pub IsBlockCutFault : Problem → (ℕ → ℕ → ℕ) → ℕ → BlockLists → (line at : ℕ) → Why → Type 0
IsBlockCutFault m weight item a line at why.Range =
    (at ≡ line) × ((IsBlockForm m item a → ⊥) ⊎ (IsBlockForm m item a × IsLeadFree m weight item × (HasSteps m weight item a → ⊥)))
IsBlockCutFault m weight item a line at why.Lead = (at ≡ line) × IsBlockForm m item a × (IsLeadFree m weight item → ⊥)
IsBlockCutFault m weight item a line at (why.Block first last server) =
    (at ≡ line) × IsBlockForm m item a × IsLeadFree m weight item × HasSteps m weight item a
    × IsFirstBroken (single_priced m weight item a) a.steps (record { first = first; last = last; server = server })
IsBlockCutFault m weight item a line at _ = ⊥

-- a rounding cut: its parts one by one, then their amounts
abbrev pub IsRoundFault : Named → List Part → (line at : ℕ) → Why → Type 0
IsRoundFault n parts line at why.Range = IsFirstWrong n parts line at why.Range
IsRoundFault n parts line at why.Sign = IsFirstWrong n parts line at why.Sign
IsRoundFault n parts line at why.TooLarge = (at ≡ line) × AreParts n parts × (AreSmall n parts → ⊥)
IsRoundFault n parts line at _ = ⊥

-- why a cut on this line has no row, after the rows of earlier ones
abbrev pub IsCutFault : Problem → (ℕ → ℕ) → (ℕ → ℕ → ℕ) → List LinRow → CutShape → (line at : ℕ) → Why → Type 0
IsCutFault m total weight earlier (LsCut item last chosen) line at w =
    IsFormFault (IsLsForm m item last chosen) (IsLeadFree m weight item) line at w
IsCutFault m total weight earlier (PriceCut item a) line at w =
    IsFormFault (IsPriceForm m item a) (IsLeadFree m weight item) line at w
IsCutFault m total weight earlier (BlockCut item a) line at w = IsBlockCutFault m weight item a line at w
IsCutFault m total weight earlier (RoundCut divisor parts) line at w =
    IsRoundFault (names m total earlier []) parts line at w

-- the row of a cut, whichever largest totals and weights are taken, and why there is none
abbrev pub IsRowOfCut : Problem → List LinRow → CutShape → LinRow → Type 0
IsRowOfCut m earlier cut row = OfProblem m (λ total weight. IsCutRow m total weight earlier cut row)

abbrev pub IsFaultOfCut : Problem → List LinRow → CutShape → ℕ → CheckFault → Type 0
IsFaultOfCut m earlier cut line fault =
    IfRejected fault (λ at w. OfProblem m (λ total weight. IsCutFault m total weight earlier cut line at w))

-- a row that has columns of the problem alone
abbrev pub HasItsColumns : Problem → LinRow → Type 0
HasItsColumns m row = All (λ a. IsColumn m a.column) row.terms

-- it holds at each feasible plan, or at those at which the rows of earlier cuts hold
abbrev pub HoldsAlways : Problem → LinRow → Type 0
HoldsAlways m row = (p : Plan) → IsFeasible m p → HoldsIn p row

abbrev pub HoldsAfter : Problem → List LinRow → LinRow → Type 0
HoldsAfter m earlier row = (p : Plan) → IsFeasible m p → AllHold (whole_point (value_in p)) earlier → HoldsIn p row

-- the divisor of a rounding cut is within its limits
abbrev pub HasDivisor : CutShape → Type 0
HasDivisor (LsCut item last chosen) = ⊤
HasDivisor (PriceCut item a) = ⊤
HasDivisor (BlockCut item a) = ⊤
HasDivisor (RoundCut divisor parts) = (1 ≤ divisor) × (divisor ≤ MAX_DIVISOR)

-- ---- what a program has of a cut
-- the echelon of a lead-free item, whichever weights of its problem are taken; it balances in each feasible plan
pub record IsCutEchelon (m : Problem) (i : ℕ) (e : EchelonItem) : Type 0 where
  pub within : IsEchelonWithinBounds e
  pub own : (weight : ℕ → ℕ → ℕ) × AreWeights (bill_of m) weight
  pub lead_free : (weight : ℕ → ℕ → ℕ) → AreWeights (bill_of m) weight → IsLeadFree m weight i
  pub of_item : (weight : ℕ → ℕ → ℕ) → AreWeights (bill_of m) weight → IsOfItem m weight i e
  pub plans : (p : Plan) → IsFeasible m p → IsPlanOf m e p

-- an item is lead-free by no weights
abbrev pub IsNotLeadFree : Problem → ℕ → Type 0
IsNotLeadFree m i = (weight : ℕ → ℕ → ℕ) → AreWeights (bill_of m) weight → IsLeadFree m weight i → ⊥

-- a refusal on this line
abbrev pub rejected : ℕ → Why → CheckFault
rejected line w = fault.Rejected (record { line = line; why = w })

-- the lists of a cut on this line make no row: one has another length, a number is past its limit, or potentials rise by more than a block costs
abbrev pub fault_on : ℕ → CutFault → CheckFault
fault_on line Length = rejected line why.Range
fault_on line TooLarge = rejected line why.Range
fault_on line (Potential first last server) = rejected line (why.Block first last server)
fault_on line Sign = rejected line why.Sign
fault_on line Memory = fault.Memory

-- the row of a name: it has columns of the problem, and holds at each feasible plan at which the rows of earlier cuts hold
pub record IsRowNamed (m : Problem) (earlier : List LinRow) (name : RowName) (row : LinRow) : Type 0 where
  pub one : WithTotals m (λ total. row ≡ row_named (names m total earlier []) name)
  pub columns : HasItsColumns m row
  pub holds : HoldsAfter m earlier row

-- the rows of parts
pub record AreRowsOf (m : Problem) (earlier : List LinRow) (parts : List Part) (rows : List LinRow) : Type 0 where
  pub one : WithTotals m (λ total. rows ≡ rows_of (names m total earlier []) parts)
  pub columns : AreOfProblem m rows
  pub hold : (p : Plan) → IsFeasible m p → AllHold (whole_point (value_in p)) earlier → AllHold (whole_point (value_in p)) rows
