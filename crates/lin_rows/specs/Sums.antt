-- Sums of rows, column by column.
use Rattle.std.specs.Prelude.{◌≡◌, ◌⊎◌, ℕ, ◌+◌, ◌-◌, ◌*◌, ◌^◌, ◌≤◌, ◌<◌, Bool, ◌&&◌, ◌==◌, nat_le, ℤ, pos, ◌+ℤ◌, ◌*ℤ◌, unsigned_abs, List, length, slice_index_or, if◌then◌else◌}
use Rattle.std.specs.List.{All}
use Rattle.algebra.specs.Sums.{list_sum_with}
use Rattle.lot_sizing.specs.declared.limits.TheConstants.{MAX_ITEMS, MAX_PERIODS}
use Rattle.lin_rows.specs.declared.column.Column.{Column}
use Rattle.lin_rows.specs.declared.column.Column.TheVariants.{X, Y, S, R}
use Rattle.lin_rows.specs.declared.row.Term.{Term}
use Rattle.lin_rows.specs.declared.total.Total.{Total}
use Rattle.lin_rows.specs.declared.sums.Sums.TheInside.{Inside}
use Rattle.lin_rows.specs.Rows.{LinRow}

abbrev pub kind_of : Column → ℕ
kind_of (X i t) = 0
kind_of (Y i t) = 1
kind_of (S i t) = 2
kind_of (R i t) = 3

abbrev pub item_of : Column → ℕ
item_of (X i t) = i
item_of (Y i t) = i
item_of (S i t) = i
item_of (R i t) = i

abbrev pub period_of : Column → ℕ
period_of (X i t) = t
period_of (Y i t) = t
period_of (S i t) = t
period_of (R i t) = t

-- a column of so many items and periods
abbrev pub has_column_for : ℕ → ℕ → Column → Bool
has_column_for items periods c = (nat_le 1 (item_of c) && nat_le (item_of c) items) && (nat_le 1 (period_of c) && nat_le (period_of c) periods)

abbrev pub IsColumnWithin : ℕ → ℕ → Column → Type 0
IsColumnWithin items periods c = (1 ≤ item_of c) × (item_of c ≤ items) × (1 ≤ period_of c) × (period_of c ≤ periods)

abbrev pub same_column : Column → Column → Bool
same_column a b = (kind_of a == kind_of b) && ((item_of a == item_of b) && (period_of a == period_of b))

-- how many times a row takes a column
abbrev pub coefficient : List Term → Column → ℤ
coefficient terms c = list_sum_with ◌+ℤ◌ (pos 0) (λ a. if same_column a.column c then a.times else pos 0) terms

-- nothing added yet
abbrev pub no_total : Total
no_total = record { sum = pos 0; amount = 0 }

-- a number is added, and its absolute value to the amount
abbrev pub with_more : Total → ℤ → Total
with_more a z = record { sum = a.sum +ℤ z; amount = a.amount + unsigned_abs z }

-- what has been added up: of each column, and of the right sides
pub record Summed : Type 0 where
  pub items : ℕ
  pub periods : ℕ
  pub cells : List Total
  pub right : Total

-- where the total of a column stands
abbrev pub cell_of : ℕ → ℕ → Column → ℕ
cell_of items periods c = (kind_of c * items + (item_of c - 1)) * periods + (period_of c - 1)

abbrev pub total_in : ℕ → ℕ → List Total → Column → Total
total_in items periods cells c = if has_column_for items periods c then slice_index_or cells (cell_of items periods c) no_total else no_total

-- what has been added up of a column
abbrev pub total_of : Summed → Column → Total
total_of s c = total_in s.items s.periods s.cells c

-- the amount stays below 2^127
abbrev pub FitsAdded : Total → ℤ → Type 0
FitsAdded a z = a.amount + unsigned_abs z < 2 ^ 127

abbrev pub sums_in : Inside → Summed
sums_in a = record { items = a.items; periods = a.periods; cells = a.cells.items; right = a.right }

-- the sum is at most the amount, which is below 2^127
pub record IsTotal (a : Total) : Type 0 where
  pub most : unsigned_abs a.sum ≤ a.amount
  pub small : a.amount < 2 ^ 127

pub record AreSums (a : Inside) : Type 0 where
  pub items : a.items ≤ MAX_ITEMS
  pub periods : a.periods ≤ MAX_PERIODS
  pub size : length a.cells.items ≡ 4 * a.items * a.periods
  pub cells : All IsTotal a.cells.items
  pub right : IsTotal a.right

-- a multiple of a term is added to the total of its column
abbrev pub AddsTerm : Summed → Summed → Term → ℤ → Type 0
AddsTerm old new a times = (c : Column) → total_of new c ≡ (if same_column a.column c then with_more (total_of old c) (times *ℤ a.times) else total_of old c)

-- a multiple of each term is added to the total of its column
abbrev pub AddsTerms : Summed → Summed → List Term → ℤ → Type 0
AddsTerms old new terms times = (c : Column) → total_of new c ≡ with_more (total_of old c) (times *ℤ coefficient terms c)

abbrev pub SameShape : Summed → Summed → Type 0
SameShape old new = (new.items ≡ old.items) × (new.periods ≡ old.periods)

-- a multiple of a row is added
pub record AddsRow (old new : Summed) (row : LinRow) (times : ℤ) : Type 0 where
  pub shape : SameShape old new
  pub terms : AddsTerms old new row.terms times
  pub right : new.right ≡ with_more old.right (times *ℤ row.right)

-- the absolute values of a column, or of the right sides, would add to 2^127 or more
abbrev pub PassesWith : Summed → LinRow → ℤ → Type 0
PassesWith s row times = ((c : Column) × (FitsAdded (total_of s c) (times *ℤ coefficient row.terms c) → ⊥)) ⊎ (FitsAdded s.right (times *ℤ row.right) → ⊥)

-- all of them stay below it
pub record HasRoomFor (s : Summed) (row : LinRow) (times : ℤ) : Type 0 where
  pub columns : (c : Column) → FitsAdded (total_of s c) (times *ℤ coefficient row.terms c)
  pub right : FitsAdded s.right (times *ℤ row.right)

-- each term by itself has room
abbrev pub EachHasRoom : Summed → List Term → ℤ → Type 0
EachHasRoom s terms times = All (λ a. FitsAdded (total_of s a.column) (times *ℤ a.times)) terms

-- the columns of terms are those of the sums
abbrev pub AreWithin : Summed → List Term → Type 0
AreWithin s terms = All (λ a. IsColumnWithin s.items s.periods a.column) terms

-- a term by itself has no room
abbrev pub LacksRoom : Summed → List Term → ℤ → Type 0
LacksRoom s terms times = (k : ℕ) × (a : Term) × (k < length terms) × (a ≡ slice_index_or terms k a) × (FitsAdded (total_of s a.column) (times *ℤ a.times) → ⊥)
