-- A table of what must have been started: a row for each item.
use Rattle.std.specs.Prelude.{◌≡◌, ℕ, ◌+◌, ◌-◌, ◌≤◌, List, [], length, slice_index_or}
use Rattle.lot_sizing.specs.Problem.{EachItem, Problem, item_count}
use Rattle.lot_sizing.specs.Plan.{EachCell, Table}
use Rattle.lot_sizing.specs.declared.limits.TheConstants.{MAX_TOTAL}
use Rattle.must_start.specs.MustStart.{AreMustStart}

-- the row of an item, and its quantity at the end of a period; that of period 0 comes first
abbrev pub row_in : List (List ℕ) → ℕ → List ℕ
row_in rows i = slice_index_or rows (i - 1) []

abbrev pub start_in : List (List ℕ) → Table
start_in rows i t = slice_index_or (row_in rows i) t 0

-- what must have been started of each item of a problem by the end of each period
pub record IsMustStartOf (m : Problem) (rows : List (List ℕ)) : Type 0 where
  pub size : length rows ≡ item_count m
  pub row_sizes : EachItem m (λ i. length (row_in rows i) ≡ m.periods + 1)
  pub starts : AreMustStart m (start_in rows)
  pub small : EachCell m (λ i t. start_in rows i t ≤ MAX_TOTAL)
