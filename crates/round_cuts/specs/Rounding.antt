-- The rounding row of a sum of rows (Chvatal 1973, Gomory 1958).
use Rattle.std.specs.Prelude.{◌≡◌, ◌⊎◌, ℕ, ◌+◌, ◌^◌, ◌≤◌, ◌<◌, false, ℤ, pos, ◌+ℤ◌, ◌*ℤ◌, ◌≤ℤ◌, ◌<ℤ◌, unsigned_abs, List, [], ◌∷◌}
use Rattle.std.specs.List.{All}
use Rattle.lin_rows.specs.declared.column.Column.{Column}
use Rattle.lin_rows.specs.declared.row.Term.{Term}
use Rattle.lin_rows.specs.Combining.{column_sum, right_sum}
use Rattle.lin_rows.specs.Rows.{AreTerms, LinRow}
use Rattle.lin_rows.specs.Sums.{coefficient, item_of, period_of}

-- the least whole number that isn't below a over q
pub record IsCeiling (q : ℕ) (a ceiling : ℤ) : Type 0 where
  pub above : a ≤ℤ (pos q *ℤ ceiling)
  pub least : (pos q *ℤ ceiling) <ℤ (a +ℤ pos q)

-- the sum of the rows, divided by q and rounded up in each column and on the right side
pub record IsRounded (rows : List LinRow) (times : List ℤ) (q : ℕ) (row : LinRow) : Type 0 where
  pub terms : AreTerms 0 row.terms
  pub columns : (c : Column) → IsCeiling q (column_sum rows times c) (coefficient row.terms c)
  pub right : IsCeiling q (right_sum rows times) row.right
  pub equal : row.equal ≡ false

-- the absolute values of a number of each row, taken so many times
abbrev pub amount_of : List LinRow → List ℤ → (LinRow → ℤ) → ℕ
amount_of [] times f = 0
amount_of (r ∷ rows) [] f = 0
amount_of (r ∷ rows) (z ∷ times) f = unsigned_abs (z *ℤ f r) + amount_of rows times f

abbrev pub column_amount : List LinRow → List ℤ → Column → ℕ
column_amount rows times c = amount_of rows times (λ r. coefficient r.terms c)

abbrev pub right_amount : List LinRow → List ℤ → ℕ
right_amount rows times = amount_of rows times (λ r. r.right)

-- the absolute values of what is added up of a column, or of the right sides, reach 2^127
abbrev pub IsTooLarge : List LinRow → List ℤ → Type 0
IsTooLarge rows times = ((c : Column) × (2 ^ 127 ≤ column_amount rows times c)) ⊎ (2 ^ 127 ≤ right_amount rows times)

-- items and periods have 32 bits
abbrev pub HasShortColumns : List Term → Type 0
HasShortColumns terms = All (λ a. (item_of a.column < 2 ^ 32) × (period_of a.column < 2 ^ 32)) terms
