-- A round of the root: the program of all base rows and of (l,S) cuts, and what its outcome says of the relaxation.
use Rattle.std.specs.Prelude.{◌≡◌, ℕ, ◌-◌, ◌≤◌, ℤ, pos, List, [], length, ⊤}
use Rattle.std.specs.List.{All}
use Rattle.rational.specs.Rational.{ℚ, ceil_ℚ}
use Rattle.lot_sizing.specs.Problem.{IsWithinLimits, Problem}
use Rattle.lot_sizing.specs.Bill.{AreWeights, bill_of}
use Rattle.lot_sizing.specs.Totals.{AreLargestTotals, IsRanking}
use Rattle.echelon.specs.declared.net.EchelonItem.{EchelonItem}
use Rattle.lin_rows.specs.declared.column.Column.{Column}
use Rattle.lin_rows.specs.Columns.{IsColumn, number_of}
use Rattle.lin_rows.specs.Rows.{LinRow}
use Rattle.echelon_rows.specs.Plans.{IsOfItem}
use Rattle.echelon_rows.specs.Rows.{echelon_in}
use Rattle.ls_cuts.specs.Points.{AreMet, Fractions}
use Rattle.cert_lines.specs.Shapes.{CutShape, LsCut, PriceCut, BlockCut, RoundCut}
use Rattle.tableau.specs.Leaves.{AreOfLeaf}
use Rattle.tableau.specs.Meaning.{AreBest, AreEmpty}
use Rattle.tableau.specs.Program.{Program, row_count}
use Rattle.cert_meaning.specs.Named.{Named, names}
use Rattle.cert_meaning.specs.CutRows.{AreCutRows, HasEchelon}
use Rattle.cert_meaning.specs.Says.{IsFarkas, IsLinear}
use Rattle.lp_relaxation.specs.Relaxation.{Closes, HasNoPoint}
use Rattle.lp_relaxation.specs.declared.program.Side.{Side}
use Rattle.lp_relaxation.specs.Names.{round_names}
use Rattle.lp_relaxation.specs.Sides.{parts_of}
use Rattle.lp_relaxation.specs.Says.{IsProgramOf, sides_named}

-- the cut is an (l,S) row
abbrev pub IsLs : CutShape → Type 0
IsLs (LsCut item last chosen) = ⊤
IsLs (PriceCut item a) = ⊥
IsLs (BlockCut item a) = ⊥
IsLs (RoundCut divisor parts) = ⊥

-- what names mean at the root: the problem's rows and the rows of the cuts so far, without a path
abbrev pub at_root : Problem → (ℕ → ℕ) → List LinRow → Named
at_root m total rows = names m total rows []

-- the sides of a round's rows
abbrev pub round_sides : Problem → (ℕ → ℕ) → List LinRow → List Side
round_sides m total rows = sides_named (at_root m total rows) (round_names m (length rows))

-- the program of a round: all base rows in their order, and then the rows of the cuts
abbrev pub IsRoundProgram : Problem → (ℕ → ℕ) → List LinRow → Program → Type 0
IsRoundProgram m total rows p = IsProgramOf (at_root m total rows) (round_names m (length rows)) p

-- the program, and the side of a row that each of its rows is
pub record IsRound (m : Problem) (total : ℕ → ℕ) (rows : List LinRow) (p : Program) (list : List Side) : Type 0 where
  pub program : IsRoundProgram m total rows p
  pub sides_are : list ≡ round_sides m total rows

-- the first round, without cuts, whichever largest totals are taken
abbrev pub IsFirstRound : Problem → Program → List Side → Type 0
IsFirstRound m p list = (total : ℕ → ℕ) → AreLargestTotals m total → IsRound m total [] p list

-- a round of a problem in which no item is its own component: by its largest totals and weights, the rows of (l,S) cuts
pub record IsRootRound (m : Problem) (total : ℕ → ℕ) (weight : ℕ → ℕ → ℕ) (cuts : List CutShape) (rows : List LinRow) (p : Program) : Type 0 where
  pub limits : IsWithinLimits m
  pub ranks : (rank : ℕ → ℕ) × IsRanking m rank
  pub totals : AreLargestTotals m total
  pub weights : AreWeights (bill_of m) weight
  pub are_ls : All IsLs cuts
  pub rows_are : AreCutRows m total weight [] cuts rows
  pub program : IsRoundProgram m total rows p

-- the fraction of each column as it is read from those by number
abbrev pub AreRead : Problem → (ℕ → ℚ) → Fractions → Type 0
AreRead m x read = (c : Column) → IsColumn m c → read c ≡ x (number_of m c - 1)

-- separation has found no row: for each lead-free item and each l, the fractions meet each row of the item's echelon
abbrev pub NoneIsViolated : Problem → (ℕ → ℕ → ℕ) → Fractions → Type 0
NoneIsViolated m weight read =
    (i l : ℕ) → HasEchelon m weight i → 1 ≤ l → l ≤ m.periods → (e : EchelonItem) × IsOfItem m weight i e × AreMet (echelon_in e) read l

-- where separation finds no row at a least point, the relaxation closes to its value rounded up, and the leaf of the multipliers says so
abbrev pub RoundsClose : Type 0
RoundsClose =
    (m : Problem) (total : ℕ → ℕ) (weight : ℕ → ℕ → ℕ) (cuts : List CutShape) (rows : List LinRow) (p : Program) (x y : ℕ → ℚ) (value : ℚ) (read : Fractions) (den : ℕ) (z : ℕ → ℤ) (c : ℕ)
    → IsRootRound m total weight cuts rows p → AreBest p x y value → AreRead m x read → NoneIsViolated m weight read
    → AreOfLeaf (row_count p) y den z → pos c ≡ ceil_ℚ value
    → Closes m c × IsLinear (at_root m total rows) (pos den) (parts_of (round_sides m total rows) z) c

-- where no point meets the rows of a round, the relaxation has none, and the leaf of the multipliers says so
abbrev pub RoundsRefute : Type 0
RoundsRefute =
    (m : Problem) (total : ℕ → ℕ) (weight : ℕ → ℕ → ℕ) (cuts : List CutShape) (rows : List LinRow) (p : Program) (y : ℕ → ℚ) (den : ℕ) (z : ℕ → ℤ)
    → IsRootRound m total weight cuts rows p → AreEmpty p y → AreOfLeaf (row_count p) y den z
    → HasNoPoint m × IsFarkas (at_root m total rows) (parts_of (round_sides m total rows) z)
