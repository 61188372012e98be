-- Sums of rows by their names, as a program keeps them.
use Rattle.std.specs.Prelude.{◌≡◌, ℕ, ◌<◌, ◌^◌, ℤ, pos, ◌*ℤ◌, ◌≤ℤ◌, ◌<ℤ◌, List, Option, Some, None, ⊤}
use Rattle.std.specs.List.{All}
use Rattle.lot_sizing.specs.Problem.{Problem, item_count}
use Rattle.lot_sizing.specs.Totals.{AreLargestTotals}
use Rattle.lin_rows.specs.declared.column.Column.{Column}
use Rattle.lin_rows.specs.declared.base.RowName.{RowName}
use Rattle.lin_rows.specs.declared.total.Total.{Total}
use Rattle.lin_rows.specs.Base.{row_of}
use Rattle.lin_rows.specs.Columns.{IsColumn, column_cost, order_of}
use Rattle.lin_rows.specs.Combining.{sum_of}
use Rattle.lin_rows.specs.Rows.{LinRow}
use Rattle.lin_rows.specs.Sums.{AddsRow, HasRoomFor, PassesWith, Summed, coefficient, item_of, kind_of, period_of, total_of}
use Rattle.round_cuts.specs.Rounding.{amount_of}
use Rattle.cert_lines.specs.declared.parts.Part.{Part}
use Rattle.cert_meaning.specs.Named.{Named, row_named}
use Rattle.cert_meaning.specs.Parts.{rows_of, times_of}
use Rattle.cert_checker.specs.declared.columns.Kind.{Kind}
use Rattle.cert_checker.specs.declared.columns.Kind.TheVariants as kinds
use Rattle.cert_checker.specs.declared.named.NamedRow.{NamedRow}
use Rattle.cert_checker.specs.declared.named.NamedSums.{NamedSums}

-- the row of this name, whatever the largest totals are, and its columns are those of the problem
pub record IsRowOf (m : Problem) (name : RowName) (row : LinRow) : Type 0 where
  pub one : (total : ℕ → ℕ) → AreLargestTotals m total → row ≡ row_of m total name
  pub columns : All (λ a. IsColumn m a.column) row.terms

-- a cell holds nothing, or a row and its name
abbrev pub IsMade : Problem → Option NamedRow → Type 0
IsMade m None = ⊤
IsMade m (Some made) = IsRowOf m made.name made.row

-- the sums are those of the problem's columns, and the rows that were made are its rows
pub record IsReadyFor (m : Problem) (n : NamedSums) : Type 0 where
  pub items : n.sums.items ≡ item_count m
  pub periods : n.sums.periods ≡ m.periods
  pub made : All (IsMade m) n.made.items

-- sums over the columns of a problem
pub record AreSumsFor (m : Problem) (s : Summed) : Type 0 where
  pub items : s.items ≡ item_count m
  pub periods : s.periods ≡ m.periods

-- what a number of each row adds up to, each taken as often as its part says
abbrev pub total_of_parts : Named → List Part → (LinRow → ℤ) → Total
total_of_parts n parts f = record { sum = sum_of (rows_of n parts) (times_of parts) f; amount = amount_of (rows_of n parts) (times_of parts) f }

abbrev pub column_total : Named → List Part → Column → Total
column_total n parts c = total_of_parts n parts (λ r. coefficient r.terms c)

abbrev pub right_total : Named → List Part → Total
right_total n parts = total_of_parts n parts (λ r. r.right)

-- the sums are those of parts
pub record AreSumsOf (n : Named) (parts : List Part) (s : Summed) : Type 0 where
  pub columns : (c : Column) → total_of s c ≡ column_total n parts c
  pub right : s.right ≡ right_total n parts

-- a multiple of a row is added, and there was room for it
pub record AddsWithin (old new : Summed) (row : LinRow) (times : ℤ) : Type 0 where
  pub adds : AddsRow old new row times
  pub room : HasRoomFor old row times

-- a part is added
abbrev pub AddsPart : Summed → Summed → Part → Named → Type 0
AddsPart old new part n = AddsWithin old new (row_named n part.row) part.times

-- there is no room for it
abbrev pub PassesPart : Summed → Part → Named → Type 0
PassesPart old part n = PassesWith old (row_named n part.row) part.times

-- the sum of a column is at most so many times its cost, where the problem has the column
abbrev pub IsWithinCost : Problem → ℤ → Summed → Column → Type 0
IsWithinCost m den s c = IsColumn m c → (total_of s c).sum ≤ℤ (den *ℤ pos (column_cost m c))

-- it is more
pub record IsLarge (m : Problem) (den : ℤ) (s : Summed) (c : Column) : Type 0 where
  pub column : IsColumn m c
  pub more : (den *ℤ pos (column_cost m c)) <ℤ (total_of s c).sum

-- the place of a kind in the order of columns
abbrev pub place_of : Kind → ℕ
place_of kinds.X = 0
place_of kinds.Y = 1
place_of kinds.S = 2
place_of kinds.R = 3

-- the columns of a kind, and of an item among them
abbrev pub IsOfKind : Kind → Column → Type 0
IsOfKind kind c = kind_of c ≡ place_of kind

abbrev pub IsOfItem : Kind → ℕ → Column → Type 0
IsOfItem kind item c = (kind_of c ≡ place_of kind) × (item_of c ≡ item)

abbrev pub IsAny : Column → Type 0
IsAny c = ⊤

-- of these columns the first whose sum is more; its item and its period have 32 bits
pub record IsFirstLarge (m : Problem) (den : ℤ) (s : Summed) (IsAmong : Column → Type 0) (c : Column) : Type 0 where
  pub among : IsAmong c
  pub item_small : item_of c < 2 ^ 32
  pub period_small : period_of c < 2 ^ 32
  pub large : IsLarge m den s c
  pub before : (d : Column) → IsAmong d → order_of d < order_of c → IsWithinCost m den s d
