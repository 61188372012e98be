-- The ranges of two grids in one list, item by item, and the list of all ranges.
use Rattle.std.specs.Prelude.{◌≡◌, ◌≤◌, ℕ, zero, suc, List, [], ◌∷◌, ◌++◌}
use Rattle.lot_sizing.specs.Plan.{Table}
use Rattle.lot_sizing.specs.Problem.{Problem, item_count}
use Rattle.cert_trees.specs.Ranges.{Ranges, WithTotals}
use Rattle.tree_search.specs.declared.node.Range.{Range}
use Rattle.tree_search.specs.Ranges.{height}
use Rattle.tree_search.specs.Whole.{whole_height, whole_ranges}
use Rattle.node_domains.specs.Within.{IsWhole}

-- those of an item in so many periods
abbrev pub row_list : (low high : Table) (item periods : ℕ) → List Range
row_list low high i zero = []
row_list low high i (suc t) = row_list low high i t ++ (record { low = low i (suc t); high = high i (suc t) } ∷ [])

-- those of so many items
abbrev pub grid_list : (low high : Table) (items periods : ℕ) → List Range
grid_list low high zero periods = []
grid_list low high (suc i) periods = grid_list low high i periods ++ row_list low high (suc i) periods

-- the list of these ranges has no more height than the whole ranges, and is their list where they are whole
pub record AreListed (m : Problem) (ranges : Ranges) (rs : List Range) : Type 0 where
  pub height : WithTotals m (λ total. height rs ≤ whole_height (item_count m) m.periods total)
  pub whole : IsWhole m ranges → WithTotals m (λ total. rs ≡ whole_ranges (item_count m) m.periods total)
