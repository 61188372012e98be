-- Programs with a further row.
use Rattle.std.proofs.Common.{◌≤◌, ◌+◌, ℕ, arith, List, [], ◌∷◌, ◌++◌}
use Rattle.std.proofs.lemmas.List.{length-append}
use Rattle.tableau.specs.declared.limits.TheConstants.{MAX_PROGRAM_SIZE}
use Rattle.tableau.specs.Program.{AreRows, Inequality, IsProgram, IsRow, Program, column_count, row_count, with_row}

pub rows_more : (last : ℕ) (rows : List Inequality) (row : Inequality) → AreRows last rows → IsRow last row → AreRows last (rows ++ row ∷ [])
rows_more last [] row all one = (one, tt)
rows_more last (r ∷ rows) row all one = (all.0, rows_more last rows row all.1 one)

last_row : (last : ℕ) (rows : List Inequality) (row : Inequality) → AreRows last (rows ++ row ∷ []) → IsRow last row
last_row last [] row all = all.0
last_row last (r ∷ rows) row all = last_row last rows row all.1

pub row_taken : (p : Program) (row : Inequality) → IsProgram p → column_count p + row_count p + 1 ≤ MAX_PROGRAM_SIZE → IsRow (column_count p) row → IsProgram (with_row p row)
row_taken p row is few one = record {
  few = omega (arith, few, length-append p.rows (row ∷ []));
  rows = rows_more (column_count p) p.rows row is.rows one;
}

pub row_of : (p : Program) (row : Inequality) → IsProgram (with_row p row) → IsRow (column_count p) row
row_of p row is = last_row (column_count p) p.rows row is.rows

pub row_fits : (p : Program) (row : Inequality) → IsProgram (with_row p row) → column_count p + row_count p + 1 ≤ MAX_PROGRAM_SIZE
row_fits p row is = omega (arith, is.few, length-append p.rows (row ∷ []))
