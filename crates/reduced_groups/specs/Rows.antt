-- What a sum of multiples of rows leaves of the costs of columns.
use Rattle.std.specs.Prelude.{◌≡◌, ℕ, ◌+◌, ◌*◌, ℤ, pos, ◌-ℤ◌, ◌*ℤ◌, List}
use Rattle.lot_sizing.specs.Sums.{sum_to}
use Rattle.lot_sizing.specs.Problem.{Problem, item_count}
use Rattle.lot_sizing.specs.Plan.{Plan}
use Rattle.lin_rows.specs.declared.column.Column.{Column}
use Rattle.lin_rows.specs.declared.column.Column.TheVariants.{X, Y, S, R}
use Rattle.lin_rows.specs.Columns.{IsColumn, column_cost}
use Rattle.lin_rows.specs.Combining.{column_sum}
use Rattle.lin_rows.specs.Rows.{LinRow}

-- the reduced cost of a column: den times its cost, less how many times the sum of rows takes it
abbrev pub reduced_cost : Problem → List LinRow → List ℤ → ℕ → Column → ℤ
reduced_cost m rows times den c = (pos den *ℤ pos (column_cost m c)) -ℤ column_sum rows times c

-- the prices are the reduced costs of the columns of the problem, of which none is below 0
abbrev pub AreReduced : Problem → List LinRow → List ℤ → ℕ → (Column → ℕ) → Type 0
AreReduced m rows times den price = (c : Column) → IsColumn m c → reduced_cost m rows times den c ≡ pos (price c)

-- what all columns of a plan cost at these prices
abbrev pub paid_at : (Column → ℕ) → Plan → ℕ → ℕ → ℕ
paid_at price p i t = price (X i t) * p.make i t + price (Y i t) * p.setup i t + price (S i t) * p.stock i t + price (R i t) * p.backlog i t

abbrev pub paid : Problem → (Column → ℕ) → Plan → ℕ
paid m price p = sum_to (item_count m) (λ i. sum_to m.periods (paid_at price p i))
