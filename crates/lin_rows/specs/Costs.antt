-- What a point of the linear model costs.
use Rattle.std.specs.Prelude.{ℕ, ◌+◌, ◌*◌, if◌then◌else◌}
use Rattle.lot_sizing.specs.Sums.{sum_to}
use Rattle.lot_sizing.specs.Problem.{Problem, backlog_cost, hold_cost, item_count, setup_cost, unit_cost}
use Rattle.lin_rows.specs.declared.column.Column.TheVariants.{X, Y, S, R}
use Rattle.lin_rows.specs.Base.{is_owing}
use Rattle.lin_rows.specs.Rows.{Values}

-- the cost of a backlog that is a column; a point has no other ones
abbrev pub owed_cost : Problem → ℕ → ℕ → ℕ
owed_cost m i t = if is_owing m i t then backlog_cost m i t else 0

-- what an item's columns of a period cost, times the denominator
abbrev pub point_cost_at : Problem → Values → ℕ → ℕ → ℕ
point_cost_at m v i t = unit_cost m i t * v (X i t) + setup_cost m i t * v (Y i t) + hold_cost m i t * v (S i t) + owed_cost m i t * v (R i t)

-- what a point costs, times its denominator
abbrev pub point_cost : Problem → Values → ℕ
point_cost m v = sum_to (item_count m) (λ i. sum_to m.periods (λ t. point_cost_at m v i t))
