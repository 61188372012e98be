-- A branch that is made of its two sides.
use Rattle.std.specs.Prelude.{◌≡◌, ℕ}
use Rattle.lin_rows.specs.declared.column.Column.{Column}
use Rattle.tree_search.specs.declared.sought.Sought.{Sought as Tree}
use Rattle.tree_search.specs.declared.sought.Sought.TheVariants.{Branch', Leaf}

-- the tree branches on the column, whose range is at the place, at the number, into these sides
abbrev pub IsBranch : Tree → Column → ℕ → ℕ → Tree → Tree → Type 0
IsBranch (Branch' c spot at p low q high) column place number left right = (c ≡ column) × (spot ≡ place) × (at ≡ number) × (low ≡ left) × (high ≡ right)
IsBranch (Leaf leaf) column place number left right = ⊥
