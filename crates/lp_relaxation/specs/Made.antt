-- How the rows of a program are made, one after the other.
use Rattle.std.specs.Prelude.{◌≡◌, ℕ, List, ◌++◌, map}
use Rattle.lot_sizing.specs.Problem.{Problem}
use Rattle.lot_sizing.specs.Totals.{AreLargestTotals}
use Rattle.lin_rows.specs.declared.base.RowName.{RowName}
use Rattle.lin_rows.specs.Base.{row_of}
use Rattle.lin_rows.specs.Columns.{column_count}
use Rattle.lin_rows.specs.Rows.{LinRow}
use Rattle.tableau.specs.declared.program.LpRow.{LpRow}
use Rattle.tableau.specs.Held.{inequality_of}
use Rattle.tableau.specs.Program.{AreRows}
use Rattle.lp_relaxation.specs.declared.program.Side.{Side}
use Rattle.lp_relaxation.specs.Sides.{all_sides, program_rows, turned_row}

-- the inequalities of a row's sides are put after others
abbrev pub PutSides : Problem → LinRow → List Side → List LpRow → List LpRow → Type 0
PutSides m r sides old new = map inequality_of new ≡ map inequality_of old ++ map (λ s. turned_row m s.turned r) sides

-- rows of a program over the columns of the problem
abbrev pub FitProgram : Problem → List LpRow → Type 0
FitProgram m rows = AreRows (column_count m) (map inequality_of rows)

-- the row of a name that the rules make, whichever largest totals are taken
abbrev pub IsRowFor : Problem → RowName → LinRow → Type 0
IsRowFor m name r = (total : ℕ → ℕ) → AreLargestTotals m total → r ≡ row_of m total name

-- the sides of such rows, and their inequalities
abbrev pub AreSidesFor : Problem → List RowName → List Side → Type 0
AreSidesFor m names sides = (total : ℕ → ℕ) → AreLargestTotals m total → sides ≡ all_sides (row_of m total) names

abbrev pub AreRowsFor : Problem → List RowName → List LpRow → Type 0
AreRowsFor m names rows =
    (total : ℕ → ℕ) → AreLargestTotals m total → map inequality_of rows ≡ program_rows m (row_of m total) (all_sides (row_of m total) names)
