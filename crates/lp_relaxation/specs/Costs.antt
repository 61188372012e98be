-- Costs by the numbers of columns.
use Rattle.std.specs.Prelude.{◌≡◌, ℕ, ◌-◌, ◌≤◌, List, length, slice_index_or}
use Rattle.lot_sizing.specs.Problem.{Problem}
use Rattle.lin_rows.specs.declared.column.Column.{Column}
use Rattle.lin_rows.specs.Columns.{IsColumn, column_cost, column_count, number_of}

-- what one of each of the first columns costs, by their numbers
pub record AreFirstCosts (m : Problem) (n : ℕ) (costs : List ℕ) : Type 0 where
  pub size : length costs ≡ n
  pub each : (c : Column) → IsColumn m c → number_of m c ≤ n → slice_index_or costs (number_of m c - 1) 0 ≡ column_cost m c

-- of all columns
pub record AreCosts (m : Problem) (costs : List ℕ) : Type 0 where
  pub size : length costs ≡ column_count m
  pub each : (c : Column) → IsColumn m c → slice_index_or costs (number_of m c - 1) 0 ≡ column_cost m c

-- a number is the cost of the column of this number
abbrev pub IsCostAt : Problem → ℕ → ℕ → Type 0
IsCostAt m number cost = (c : Column) → IsColumn m c → number_of m c ≡ number → cost ≡ column_cost m c
