-- The columns of the linear model, their order, and their values at a plan.
use Rattle.std.specs.Prelude.{◌≡◌, ℕ, ◌+◌, ◌-◌, ◌*◌, ◌^◌, ◌≤◌, ◌<◌, IsSome, is_some, if◌then◌else◌}
use Rattle.lot_sizing.specs.Sums.{sum_to}
use Rattle.lot_sizing.specs.Problem.{Problem, item_at, item_count, unit_cost, setup_cost, hold_cost, backlog_cost}
use Rattle.lot_sizing.specs.Plan.{Plan}
use Rattle.lin_rows.specs.declared.column.Column.{Column}
use Rattle.lin_rows.specs.declared.column.Column.TheVariants.{X, Y, S, R}

-- what a plan has of a column
abbrev pub value_in : Plan → Column → ℕ
value_in p (X i t) = p.make i t
value_in p (Y i t) = p.setup i t
value_in p (S i t) = p.stock i t
value_in p (R i t) = p.backlog i t

-- an item and a period of a problem
abbrev pub IsCell : Problem → ℕ → ℕ → Type 0
IsCell m i t = (1 ≤ i) × (i ≤ item_count m) × (1 ≤ t) × (t ≤ m.periods)

-- the problem has the column: a backlog is free where the item has a cost of it and the period isn't the last
abbrev pub IsColumn : Problem → Column → Type 0
IsColumn m (X i t) = IsCell m i t
IsColumn m (Y i t) = IsCell m i t
IsColumn m (S i t) = IsCell m i t
IsColumn m (R i t) = IsCell m i t × (t < m.periods) × IsSome (item_at m i).backlog_cost

-- by kind, then by item, then by period, both of which have 32 bits
abbrev pub order_at : ℕ → ℕ → ℕ → ℕ
order_at kind i t = kind * 2 ^ 64 + i * 2 ^ 32 + t

-- the place of a column in the order of columns
abbrev pub order_of : Column → ℕ
order_of (X i t) = order_at 0 i t
order_of (Y i t) = order_at 1 i t
order_of (S i t) = order_at 2 i t
order_of (R i t) = order_at 3 i t

-- 1 where the item has a backlog cost
abbrev pub owes : Problem → ℕ → ℕ
owes m i = if is_some (item_at m i).backlog_cost then 1 else 0

-- the columns of units, setups and stocks: one of each kind for each item and period
abbrev pub cell_count : Problem → ℕ
cell_count m = item_count m * m.periods

-- how many backlogs of the first items are columns
abbrev pub owing_count : Problem → ℕ → ℕ
owing_count m n = sum_to n (owes m) * (m.periods - 1)

-- how many columns there are
abbrev pub column_count : Problem → ℕ
column_count m = 3 * cell_count m + owing_count m (item_count m)

-- which item and period, counted from 1
abbrev pub cell_number : Problem → ℕ → ℕ → ℕ
cell_number m i t = (i - 1) * m.periods + t

-- the number of a column: how many there are up to it
abbrev pub number_of : Problem → Column → ℕ
number_of m (X i t) = cell_number m i t
number_of m (Y i t) = cell_count m + cell_number m i t
number_of m (S i t) = 2 * cell_count m + cell_number m i t
number_of m (R i t) = 3 * cell_count m + owing_count m (i - 1) + t

-- a column that comes earlier has a smaller number
abbrev pub NumbersRise : Problem → Column → Type 0
NumbersRise m c = (d : Column) → IsColumn m c → IsColumn m d → order_of d < order_of c → number_of m d < number_of m c

-- what one of a column costs
abbrev pub column_cost : Problem → Column → ℕ
column_cost m (X i t) = unit_cost m i t
column_cost m (Y i t) = setup_cost m i t
column_cost m (S i t) = hold_cost m i t
column_cost m (R i t) = backlog_cost m i t

-- the problem has the column, and it has this number
abbrev pub IsColumnAt : Problem → ℕ → Column → Type 0
IsColumnAt m number c = IsColumn m c × (number_of m c ≡ number)
