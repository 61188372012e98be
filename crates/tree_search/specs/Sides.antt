-- The two sides of a branch: the low one, where the column is at most a number, and the high one.
use Rattle.std.specs.Prelude.{ℕ, ◌+◌, Bool, true, false, List}
use Rattle.lin_rows.specs.declared.column.Column.{Column}
use Rattle.tree_search.specs.declared.node.Range.{Range}
use Rattle.lin_rows.specs.declared.bound.Bound.{Bound}
use Rattle.tree_search.specs.Ranges.{high_part, high_side, low_part, low_side}
use Rattle.tree_search.specs.Trees.{at_least, at_most, high_path, low_path}

abbrev pub side_part : Bool → Range → ℕ → Range
side_part true r at = low_part r at
side_part false r at = high_part r at

abbrev pub side_bound : Bool → Column → ℕ → Bound
side_bound true c at = at_most c at
side_bound false c at = at_least c (at + 1)

abbrev pub side_ranges : Bool → List Range → ℕ → ℕ → List Range
side_ranges true rs k at = low_side rs k at
side_ranges false rs k at = high_side rs k at

abbrev pub side_path : Bool → List Bound → Column → ℕ → List Bound
side_path true path c at = low_path path c at
side_path false path c at = high_path path c at
