-- How rounds grow, and that their rows and numbers are those of a program.
use Rattle.std.specs.Prelude.{◌≡◌, ℕ, ◌+◌, ◌≤◌, Bool, false, List, [], ◌∷◌, ◌++◌, length}
use Rattle.std.specs.List.{All}
use Rattle.frac128.specs.Limits.{IsSmall}
use Rattle.lot_sizing.specs.Problem.{IsWithinLimits, Problem}
use Rattle.echelon.specs.declared.net.EchelonItem.{EchelonItem}
use Rattle.echelon.specs.Views.{IsEchelonWithinBounds}
use Rattle.lin_rows.specs.declared.base.RowName.TheVariants.{Cut}
use Rattle.lin_rows.specs.Columns.{IsColumn, column_count}
use Rattle.lin_rows.specs.Rows.{AreTerms, IsSmallRow, LinRow}
use Rattle.echelon_rows.specs.Rows.{echelon_in}
use Rattle.ls_cuts.specs.Rows.{Periods, ls_row}
use Rattle.tableau.specs.Program.{IsRow, Program, column_count as width_of, row_count, with_row}
use Rattle.lp_relaxation.specs.declared.limits.TheConstants.{MAX_ROUND_CUTS, MAX_ROUND_SIZE}
use Rattle.lp_relaxation.specs.declared.program.Side.{Side}
use Rattle.lp_relaxation.specs.Rounds.{IsRound}
use Rattle.lp_relaxation.specs.Sides.{side, turned_row}

-- with one cut more, which isn't equal, the program has its row more, and its side stands after the others
abbrev pub RoundsGrow : Type 0
RoundsGrow =
    (m : Problem) (total : ℕ → ℕ) (rows : List LinRow) (p : Program) (list : List Side) (r : LinRow)
    → r.equal ≡ false → IsRound m total rows p list
    → IsRound m total (rows ++ (r ∷ [])) (with_row p (turned_row m false r)) (list ++ (side (Cut (length rows + 1)) false ∷ []))

-- the numbers of a row are below 2^127 in absolute value
pub record HasSmallNumbers (r : LinRow) : Type 0 where
  pub terms : All (λ a. IsSmall a.times) r.terms
  pub right : IsSmall r.right

-- those of base rows are, and those of (l,S) rows
abbrev pub BaseRowsAreSmall : Type 0
BaseRowsAreSmall = (r : LinRow) → IsSmallRow r → HasSmallNumbers r

abbrev pub LsRowsAreSmall : Type 0
LsRowsAreSmall =
    (e : EchelonItem) → IsEchelonWithinBounds e → (l : ℕ) (chosen : Periods) → l ≤ length e.demand.items → HasSmallNumbers (ls_row (echelon_in e) l chosen)

-- a row whose columns rise and are those of the problem is one of a program, either side of it
abbrev pub SidesAreRows : Type 0
SidesAreRows =
    (m : Problem) (turned : Bool) (r : LinRow) → IsWithinLimits m → AreTerms 0 r.terms → All (λ a. IsColumn m a.column) r.terms → HasSmallNumbers r
    → IsRow (column_count m) (turned_row m turned r)

-- the program of a round has one side for each row and, with up to MAX_ROUND_CUTS cuts, at most MAX_ROUND_SIZE columns and rows
pub record IsSized (p : Program) (list : List Side) : Type 0 where
  pub sides : length list ≡ row_count p
  pub few : width_of p + row_count p ≤ MAX_ROUND_SIZE

abbrev pub RoundsAreFew : Type 0
RoundsAreFew =
    (m : Problem) (total : ℕ → ℕ) (rows : List LinRow) (p : Program) (list : List Side)
    → IsWithinLimits m → length rows ≤ MAX_ROUND_CUTS → IsRound m total rows p list → IsSized p list
