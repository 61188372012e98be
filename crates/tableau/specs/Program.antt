-- Linear programs: the least cost of numbers of at least 0 under rows that bound sums of multiples from below.
use Rattle.std.specs.Prelude.{◌≤◌, ◌<◌, ◌+◌, ◌^◌, ℕ, ℤ, pos, ◌+ℤ◌, unsigned_abs, if◌then◌else◌, ◌==◌, List, [], ◌∷◌, ◌++◌, length, slice_index_or, ⊤}
use Rattle.rational.specs.Rational.{ℚ, whole, ◌+ℚ◌}
use Rattle.algebra.specs.Sums.{sum_with}
use Rattle.tableau.specs.declared.limits.TheConstants.{MAX_PROGRAM_SIZE}
use Rattle.tableau.specs.declared.program.LpTerm.{LpTerm}

abbrev pub zero_ℚ : ℚ
zero_ℚ = whole (pos 0)

-- f 0 + .. + f (n - 1)
abbrev pub sum_ℚ : ℕ → (ℕ → ℚ) → ℚ
sum_ℚ n f = sum_with ◌+ℚ◌ zero_ℚ n f

-- the sum of multiples of columns is at least the right side; the type `LpRow` holds one
pub record Inequality : Type 0 where
  pub terms : List LpTerm
  pub right : ℤ

-- costs of the columns, and rows; the type `Lp` holds one
pub record Program : Type 0 where
  pub costs : List ℕ
  pub rows : List Inequality

abbrev pub column_count : Program → ℕ
column_count p = length p.costs

abbrev pub row_count : Program → ℕ
row_count p = length p.rows

abbrev pub empty_row : Inequality
empty_row = record { terms = []; right = pos 0 }

-- a row by its place, counted from 0
abbrev pub row_at : Program → ℕ → Inequality
row_at p k = slice_index_or p.rows k empty_row

-- how many times a row has a column
abbrev pub times_of : List LpTerm → ℕ → ℤ
times_of [] column = pos 0
times_of (t ∷ ts) column = (if t.column == column then t.times else pos 0) +ℤ times_of ts column

-- the numbers of the program; columns are counted from 1, and their places from 0
abbrev pub cost_at : Program → ℕ → ℚ
cost_at p c = whole (pos (slice_index_or p.costs c 0))

abbrev pub entry_at : Program → ℕ → ℕ → ℚ
entry_at p k c = whole (times_of (row_at p k).terms (c + 1))

abbrev pub right_at : Program → ℕ → ℚ
right_at p k = whole (row_at p k).right

-- ---- the conditions
-- columns rise from one on to a last one, and times are small
abbrev pub AreTerms : ℕ → ℕ → List LpTerm → Type 0
AreTerms last from [] = ⊤
AreTerms last from (t ∷ ts) = (from < t.column) × (t.column ≤ last) × (unsigned_abs t.times < 2 ^ 127) × AreTerms last t.column ts

pub record IsRow (last : ℕ) (row : Inequality) : Type 0 where
  pub terms : AreTerms last 0 row.terms
  pub right : unsigned_abs row.right < 2 ^ 127

abbrev pub AreRows : ℕ → List Inequality → Type 0
AreRows last [] = ⊤
AreRows last (row ∷ rows) = IsRow last row × AreRows last rows

pub record IsProgram (p : Program) : Type 0 where
  pub few : column_count p + row_count p ≤ MAX_PROGRAM_SIZE
  pub rows : AreRows (column_count p) p.rows

-- with a further row after the others
abbrev pub with_row : Program → Inequality → Program
with_row p row = record { costs = p.costs; rows = p.rows ++ row ∷ [] }
