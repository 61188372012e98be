-- What the fields of programs and tableaus stand for.
use Rattle.std.specs.Prelude.{◌≡◌, ◌≤◌, ◌<◌, ◌+◌, ◌-◌, ◌*◌, ◌/◌, ◌%◌, ◌==◌, if◌then◌else◌, ℕ, zero, suc, List, [], ◌∷◌, map, length, slice_index_or}
use Rattle.std.specs.Int.{bit_at}
use Rattle.rational.specs.Rational.{ℚ}
use Rattle.tableau.specs.declared.program.LpRow.{LpRow}
use Rattle.tableau.specs.declared.program.Lp.TheInside as lp
use Rattle.tableau.specs.declared.tableau.Tableau.TheInside as tableau
use Rattle.tableau.specs.Program.{Inequality, IsProgram, Program, zero_ℚ}
use Rattle.tableau.specs.Dictionary.{Dictionary}

abbrev pub inequality_of : LpRow → Inequality
inequality_of row = record { terms = row.terms.items; right = row.right }

abbrev pub program_in : lp.Inside → Program
program_in a = record { costs = a.costs.items; rows = map inequality_of a.rows.items }

abbrev pub IsLpInside : lp.Inside → Type 0
IsLpInside a = IsProgram (program_in a)

-- f 0, f 1, .., f (n - 1)
unfoldable pub values_of : ℕ → (ℕ → ℚ) → List ℚ
values_of zero f = []
values_of (suc n) f = f zero ∷ values_of n (λ k. f (suc k))

-- of lists of the constants, and of the other cells row by row, the cell of a row and a column; the constants are column 0
abbrev pub cell_of : List ℚ → List ℚ → ℕ → ℕ → ℕ → ℚ
cell_of constants cells width i t = if t == 0 then slice_index_or constants i zero_ℚ else slice_index_or cells (i * (width - 1) + (t - 1)) zero_ℚ

-- all of them, row by row
abbrev pub cells_of : List ℚ → List ℚ → ℕ → ℕ → List ℚ
cells_of constants cells height width = values_of (height * width) (λ k. cell_of constants cells width (k / width) (k % width))

abbrev pub dictionary_of : List ℕ → List ℕ → List ℚ → List ℚ → Dictionary
dictionary_of basic nonbasic constants cells = record { basic = basic; nonbasic = nonbasic; cells = cells_of constants cells (length basic) (length nonbasic) }

abbrev pub dictionary_in : tableau.Inside → Dictionary
dictionary_in a = dictionary_of a.basic.items a.nonbasic.items a.constants.items a.cells.items

-- a place has no mark
abbrev pub IsClear : List ℕ → ℕ → Type 0
IsClear marks place = bit_at (slice_index_or marks (place / 64) 0) (place % 64) ≡ 0

-- there is a constant for each row, a cell for each row and other column, and a mark where a cell isn't 0
pub record IsShapedInside (a : tableau.Inside) : Type 0 where
  pub rows : 1 ≤ length a.basic.items
  pub columns : 1 ≤ length a.nonbasic.items
  pub constants : length a.constants.items ≡ length a.basic.items
  pub cells : length a.cells.items ≡ length a.basic.items * (length a.nonbasic.items - 1)
  pub marks : length a.basic.items * length a.nonbasic.items ≤ 64 * length a.marks.items
  pub marked : (i t : ℕ) → i < length a.basic.items → t < length a.nonbasic.items → IsClear a.marks.items (i * length a.nonbasic.items + t) → cell_of a.constants.items a.cells.items (length a.nonbasic.items) i t ≡ zero_ℚ
