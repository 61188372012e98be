-- The bill that lists of components make.
use Rattle.std.specs.Prelude.{◌≡◌, ℕ, ◌-◌, ◌≤◌, ◌<◌, ◌==◌, if◌then◌else◌, List, [], length, slice_index_or}
use Rattle.std.specs.List.{All, sum_by}
use Rattle.lot_sizing.specs.declared.Need.{Need}
use Rattle.lot_sizing.specs.declared.limits.TheConstants.{MAX_BILL_LINES, MAX_ITEMS, MAX_QUANTITY}
use Rattle.lot_sizing.specs.Bill.{Bill}

abbrev pub no_need : Need
no_need = record { item = 0; quantity = 0 }

abbrev pub line_at : List Need → ℕ → Need
line_at needs n = slice_index_or needs n no_need

-- the components of an item
abbrev pub lines_of : List (List Need) → ℕ → List Need
lines_of lines j = slice_index_or lines (j - 1) []

-- how many units of an item these lines take
abbrev pub units_in : List Need → ℕ → ℕ
units_in needs i = sum_by (λ need. if need.item == i then need.quantity else 0) needs

abbrev pub bill_of_lines : List (List Need) → Bill
bill_of_lines lines = record { items = length lines; units = λ i j. units_in (lines_of lines j) i }

-- a line names an item and takes at least one unit of it, and not too many
pub record IsLine (items : ℕ) (need : Need) : Type 0 where
  pub low : 1 ≤ need.item
  pub high : need.item ≤ items
  pub some : 1 ≤ need.quantity
  pub few : need.quantity ≤ MAX_QUANTITY

-- one of the lines is of this item
abbrev pub Names : List Need → ℕ → Type 0
Names needs i = (n : ℕ) × (n < length needs) × ((line_at needs n).item ≡ i)

-- so many items, with so many lines each
pub record AreLines (lines : List (List Need)) : Type 0 where
  pub items : length lines ≤ MAX_ITEMS
  pub few : (j : ℕ) → 1 ≤ j → j ≤ length lines → length (lines_of lines j) ≤ MAX_BILL_LINES
  pub each : (j : ℕ) → 1 ≤ j → j ≤ length lines → All (IsLine (length lines)) (lines_of lines j)
