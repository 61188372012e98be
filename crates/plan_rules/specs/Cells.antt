-- A grid of numbers, and the plan that four of them hold.
use Rattle.std.specs.Prelude.{◌≡◌, ◌≢◌, ◌⊎◌, ◌≤◌, ℕ, ◌+◌, ◌-◌, ◌*◌, List, slice_index}
use Rattle.lot_sizing.specs.Problem.{Problem, item_count}
use Rattle.lot_sizing.specs.Plan as terms

-- items times periods numbers, item by item
pub record Cells : Type 0 where
  pub items : ℕ
  pub periods : ℕ
  pub cells : List ℕ

-- where the number of an item and a period stands
abbrev pub place : ℕ → ℕ → ℕ → ℕ
place periods i t = (i - 1) * periods + (t - 1)

-- the number of each item and period
abbrev pub table_of : Cells → terms.Table
table_of g i t = slice_index g.cells (place g.periods i t)

-- the grid has the problem's items and periods
pub record Fits (m : Problem) (g : Cells) : Type 0 where
  pub items : g.items ≡ item_count m
  pub periods : g.periods ≡ m.periods

-- all numbers but one are the same
abbrev pub SameApart : Cells → Cells → ℕ → ℕ → Type 0
SameApart old new i t = (j u : ℕ) → 1 ≤ j → j ≤ old.items → 1 ≤ u → u ≤ old.periods → (j ≢ i) ⊎ (u ≢ t) → table_of new j u ≡ table_of old j u

-- the grid has so many items and periods, and this value at each
pub record HoldsOnly (items periods value : ℕ) (g : Cells) : Type 0 where
  pub item_count : g.items ≡ items
  pub period_count : g.periods ≡ periods
  pub each : (i t : ℕ) → 1 ≤ i → i ≤ items → 1 ≤ t → t ≤ periods → table_of g i t ≡ value
