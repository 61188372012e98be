-- Points whose values are fractions, one for each column by its number.
use Rattle.std.specs.Prelude.{◌≡◌, ℕ, ◌+◌, ◌-◌, ◌*◌, ◌≤◌, Bool, ◌&&◌, nat_lt, pos, List, slice_index_or, if◌then◌else◌}
use Rattle.rational.specs.Rational.{ℚ, whole}
use Rattle.lot_sizing.specs.Problem.{Problem}
use Rattle.lot_sizing.specs.declared.limits.TheConstants.{MAX_ITEMS, MAX_PERIODS}
use Rattle.lin_rows.specs.declared.column.Column.{Column}
use Rattle.lin_rows.specs.declared.column.Column.TheVariants.{X, Y, S, R}
use Rattle.lin_rows.specs.declared.point.Point.TheInside.{Inside}
use Rattle.lin_rows.specs.Columns.{IsColumn, number_of}
use Rattle.lin_rows.specs.Sums.{has_column_for}

-- the values by the columns' numbers, and what numbers the columns: how many items and periods there are, and how many of the first items have a backlog cost (an entry for none of them, for one, and so on)
pub record Pointed : Type 0 where
  pub items : ℕ
  pub periods : ℕ
  pub owing : List ℕ
  pub values : List ℚ

-- how many of the first items have a backlog cost
abbrev pub owing_to : Pointed → ℕ → ℕ
owing_to p n = slice_index_or p.owing n 0

-- an item has a backlog cost where it is counted
abbrev pub has_column : Pointed → Column → Bool
has_column p (X i t) = has_column_for p.items p.periods (X i t)
has_column p (Y i t) = has_column_for p.items p.periods (Y i t)
has_column p (S i t) = has_column_for p.items p.periods (S i t)
has_column p (R i t) = has_column_for p.items p.periods (R i t) && (nat_lt t p.periods && nat_lt (owing_to p (i - 1)) (owing_to p i))

-- the number of a column, counted from 1
abbrev pub number_in : Pointed → Column → ℕ
number_in p (X i t) = (i - 1) * p.periods + t
number_in p (Y i t) = p.items * p.periods + ((i - 1) * p.periods + t)
number_in p (S i t) = 2 * (p.items * p.periods) + ((i - 1) * p.periods + t)
number_in p (R i t) = 3 * (p.items * p.periods) + owing_to p (i - 1) * (p.periods - 1) + t

-- the value of a column, 0 where there is none
abbrev pub read_at : Pointed → Column → ℚ
read_at p c = if has_column p c then slice_index_or p.values (number_in p c - 1) (whole (pos 0)) else whole (pos 0)

-- each column of the problem has the value at its number, and no other column has one
pub record IsPointOf (m : Problem) (values : List ℚ) (p : Pointed) : Type 0 where
  pub value : (c : Column) → IsColumn m c → read_at p c ≡ slice_index_or values (number_of m c - 1) (whole (pos 0))
  pub none : (c : Column) → (IsColumn m c → ⊥) → read_at p c ≡ whole (pos 0)

abbrev pub pointed_in : Inside → Pointed
pointed_in a = record { items = a.items; periods = a.periods; owing = a.owing; values = a.values.items }

-- there are no more items and periods than a problem may have, and no more items are counted
pub record ArePlaces (a : Inside) : Type 0 where
  pub items : a.items ≤ MAX_ITEMS
  pub periods : a.periods ≤ MAX_PERIODS
  pub owing : (n : ℕ) → slice_index_or a.owing n 0 ≤ MAX_ITEMS
