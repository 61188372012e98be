-- A weak guide: a leaf says 0, but at a point, where it says 1.
use Rattle.std.specs.Prelude.{◌≡◌, ℕ, ◌+◌, ◌*◌, Option, Some, None}
use Rattle.lin_rows.specs.declared.column.Column.{Column}
use Rattle.lin_rows.specs.declared.column.Column.TheVariants.{X, Y, S, R}
use Rattle.tree_search.specs.Trees.{Rules}

abbrev pub number_of : Column → ℕ
number_of (X i t) = i * 4294967296 + t
number_of (Y i t) = 0
number_of (S i t) = 0
number_of (R i t) = 0

abbrev pub weak_rules : Rules
weak_rules = record { place = number_of }

-- there is no plan yet, or one that costs 1
abbrev pub IsWeakCost : Option ℕ → Type 0
IsWeakCost None = Unit {0}
IsWeakCost (Some cost) = cost ≡ 1
