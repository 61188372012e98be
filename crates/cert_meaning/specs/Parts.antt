-- Multiples of named rows, and their sums.
use Rattle.std.specs.Prelude.{◌≡◌, ◌^◌, ◌<◌, false, ℤ, pos, ◌≤ℤ◌, List, map}
use Rattle.std.specs.List.{All}
use Rattle.lin_rows.specs.declared.column.Column.{Column}
use Rattle.lin_rows.specs.Combining.{column_sum, right_sum}
use Rattle.lin_rows.specs.Rows.{LinRow}
use Rattle.round_cuts.specs.Rounding.{column_amount, right_amount}
use Rattle.cert_lines.specs.declared.parts.Part.{Part}
use Rattle.cert_meaning.specs.Named.{IsNamed, Named, row_named}

-- the row exists, and is taken a negative number of times only where it is an equation
pub record IsPart (n : Named) (part : Part) : Type 0 where
  pub named : IsNamed n part.row
  pub signed : (row_named n part.row).equal ≡ false → pos 0 ≤ℤ part.times

abbrev pub AreParts : Named → List Part → Type 0
AreParts n parts = All (IsPart n) parts

-- the rows of parts, and how many times each is taken
abbrev pub rows_of : Named → List Part → List LinRow
rows_of n parts = map (λ part. row_named n part.row) parts

abbrev pub times_of : List Part → List ℤ
times_of parts = map (λ part. part.times) parts

-- how many times the sum of parts takes a column, and its right side
abbrev pub sum_of_column : Named → List Part → Column → ℤ
sum_of_column n parts c = column_sum (rows_of n parts) (times_of parts) c

abbrev pub sum_of_right : Named → List Part → ℤ
sum_of_right n parts = right_sum (rows_of n parts) (times_of parts)

-- the absolute values of what is added up of each column, and of the right sides, stay below 2^127
pub record AreSmall (n : Named) (parts : List Part) : Type 0 where
  pub columns : (c : Column) → column_amount (rows_of n parts) (times_of parts) c < 2 ^ 127
  pub right : right_amount (rows_of n parts) (times_of parts) < 2 ^ 127
