-- Ranges of quantities and setups.
use Rattle.std.specs.Prelude.{ℕ, ◌≤◌}
use Rattle.lot_sizing.specs.Problem.{Problem}
use Rattle.lot_sizing.specs.Plan.{Plan, EachCell}
use Rattle.lot_sizing.specs.Totals.{AreLargestTotals}
use Rattle.lin_rows.specs.declared.column.Column.{Column}
use Rattle.lin_rows.specs.declared.column.Column.TheVariants.{X, Y, S, R}
use Rattle.lin_rows.specs.Columns.{IsCell}
use Rattle.cert_trees.specs.Spans.{IsIn, Span}

-- a range of each column; those of quantities and setups count
abbrev pub Ranges : Type 0
Ranges = Column → Span

-- a quantity or a setup of the problem: a column that a branch may split
abbrev pub IsChoice : Problem → Column → Type 0
IsChoice m (X i t) = IsCell m i t
IsChoice m (Y i t) = IsCell m i t
IsChoice m (S i t) = ⊥
IsChoice m (R i t) = ⊥

-- a quantity is from 0 to its item's largest total, and a setup from 0 to 1
abbrev pub whole_ranges : (ℕ → ℕ) → Ranges
whole_ranges total (X i t) = record { low = 0; high = total i }
whole_ranges total (Y i t) = record { low = 0; high = 1 }
whole_ranges total (S i t) = record { low = 0; high = 0 }
whole_ranges total (R i t) = record { low = 0; high = 0 }

-- whatever the largest totals are; where no item is its own component, each item has one
abbrev pub WithTotals : Problem → ((ℕ → ℕ) → Type 0) → Type 0
WithTotals m P = (total : ℕ → ℕ) → AreLargestTotals m total → P total

-- each quantity and each setup of the plan is in its range
abbrev pub IsWithin : Problem → Ranges → Plan → Type 0
IsWithin m ranges p = EachCell m (λ i t. IsIn (ranges (X i t)) (p.make i t) × IsIn (ranges (Y i t)) (p.setup i t))

-- no quantity and no setup has an empty range
abbrev pub AreOpen : Problem → Ranges → Type 0
AreOpen m ranges = (c : Column) → IsChoice m c → (ranges c).low ≤ (ranges c).high
