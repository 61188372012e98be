-- Ranges of quantities and setups that are given, and plans within them.
use Rattle.std.specs.Prelude.{◌≤◌, ℕ}
use Rattle.lot_sizing.specs.Problem.{Problem}
use Rattle.lot_sizing.specs.Plan as terms
use Rattle.plan_rules.specs.Cells.{Fits, table_of}
use Rattle.lin_rows.specs.declared.column.Column.{Column}
use Rattle.lin_rows.specs.declared.column.Column.TheVariants.{X, Y, S, R}
use Rattle.cert_trees.specs.Ranges.{AreOpen, IsChoice, IsWithin, Ranges, WithTotals, whole_ranges}
use Rattle.cert_trees.specs.Spans.{IsIn}
use Rattle.cert_meaning.specs.Laws.{AreSameRanges}
use Rattle.node_domains.specs.declared.within.Ranges.{Ranges as Given}

-- ---- ranges
-- the range of each column in the grids that were given; quantities and setups have them
abbrev pub given_ranges : Given → Ranges
given_ranges r (X i t) = record { low = table_of r.low i t; high = table_of r.high i t }
given_ranges r (Y i t) = record { low = table_of r.setup_low i t; high = table_of r.setup_high i t }
given_ranges r (S i t) = record { low = 0; high = 0 }
given_ranges r (R i t) = record { low = 0; high = 0 }

-- each grid has a number for each item and period of the problem
pub record HaveShape (m : Problem) (r : Given) : Type 0 where
  pub low : Fits m r.low
  pub high : Fits m r.high
  pub setup_low : Fits m r.setup_low
  pub setup_high : Fits m r.setup_high

-- no range goes above the whole one
abbrev pub AreInside : Problem → Ranges → Type 0
AreInside m ranges = WithTotals m (λ total. (c : Column) → IsChoice m c → (ranges c).high ≤ (whole_ranges total c).high)

-- ranges of the problem, none upside down and none that goes out of the whole one
pub record AreGiven (m : Problem) (r : Given) : Type 0 where
  pub shape : HaveShape m r
  pub ordered : AreOpen m (given_ranges r)
  pub inside : AreInside m (given_ranges r)

-- the ranges of an item and a period are in order, and go no higher than this, and than 1
abbrev pub IsCellUpTo : Ranges → ℕ → ℕ → ℕ → Type 0
IsCellUpTo ranges most i t =
    ((ranges (X i t)).low ≤ (ranges (X i t)).high)
    × ((ranges (X i t)).high ≤ most)
    × ((ranges (Y i t)).low ≤ (ranges (Y i t)).high)
    × ((ranges (Y i t)).high ≤ 1)

-- they are in order, and go no higher than the whole ones
abbrev pub IsCellGiven : Problem → Ranges → ℕ → ℕ → Type 0
IsCellGiven m ranges i t =
    ((ranges (X i t)).low ≤ (ranges (X i t)).high)
    × WithTotals m (λ total. (ranges (X i t)).high ≤ total i)
    × ((ranges (Y i t)).low ≤ (ranges (Y i t)).high)
    × ((ranges (Y i t)).high ≤ 1)

-- these are the whole ranges
abbrev pub IsWhole : Problem → Ranges → Type 0
IsWhole m ranges = WithTotals m (λ total. AreSameRanges m ranges (whole_ranges total))

-- ---- plans
-- the quantity and the setup of an item in a period are in their ranges
abbrev pub IsCellWithin : Ranges → terms.Plan → ℕ → ℕ → Type 0
IsCellWithin ranges p i t = IsIn (ranges (X i t)) (p.make i t) × IsIn (ranges (Y i t)) (p.setup i t)

-- each feasible plan is within the ranges
abbrev pub AllLieWithin : Problem → Ranges → Type 0
AllLieWithin m ranges = (p : terms.Plan) → terms.IsFeasible m p → IsWithin m ranges p

-- which is so of the whole ones
abbrev pub LieInWhole : Problem → Type 0
LieInWhole m = (ranges : Ranges) → IsWhole m ranges → AllLieWithin m ranges
