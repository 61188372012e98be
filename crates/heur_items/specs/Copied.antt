-- Grids that are copied.
use Rattle.std.specs.Prelude.{◌≡◌, ◌≤◌, ◌<◌, ◌+◌, ℕ}
use Rattle.lot_sizing.specs.Problem.{Problem}
use Rattle.plan_rules.specs.Cells.{Cells, Fits, table_of}
use Rattle.plan_rules.specs.Rows.{OtherRowsSame}

-- an item has the same numbers in two grids before a period
abbrev pub IsSameBefore : Cells → Cells → ℕ → ℕ → Type 0
IsSameBefore from to i t = (u : ℕ) → 1 ≤ u → u < t → table_of to i u ≡ table_of from i u

-- so have the items before one, for all periods
abbrev pub AreRowsSame : Problem → Cells → Cells → ℕ → Type 0
AreRowsSame m from to item = (i u : ℕ) → 1 ≤ i → i < item → 1 ≤ u → u ≤ m.periods → table_of to i u ≡ table_of from i u

-- an item's row is that of the other grid, and the rows of others are as they were
pub record IsRowCopied (m : Problem) (from old new : Cells) (i : ℕ) : Type 0 where
  pub fits : Fits m new
  pub row : IsSameBefore from new i (m.periods + 1)
  pub others : OtherRowsSame old new i
