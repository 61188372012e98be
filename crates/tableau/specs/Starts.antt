-- How the first dictionary is made.
use Rattle.std.specs.Prelude.{◌≡◌, ◌≢◌, ◌≤◌, ◌<◌, ◌+◌, ℕ, List, length, slice_index_or}
use Rattle.rational.specs.Rational.{whole, neg_ℚ}
use Rattle.tableau.specs.Program.{Inequality, Program, column_count, cost_at, row_count, times_of, zero_ℚ}
use Rattle.tableau.specs.Dictionary.{Dictionary, basic_at, cell, cost_of, height, nonbasic_at, slack_of, width}
use Rattle.tableau.specs.Steps.{HasSameNames}

-- first, first + 1, ..
pub record AreVariables (first count : ℕ) (list : List ℕ) : Type 0 where
  pub size : length list ≡ count
  pub each : (t : ℕ) → t < count → slice_index_or list t 0 ≡ first + t

-- the names of the first dictionary, and 0 in each cell
pub record IsBlank (p : Program) (d : Dictionary) : Type 0 where
  pub rows : height d ≡ row_count p + 1
  pub columns : width d ≡ column_count p + 1
  pub first : basic_at d 0 ≡ cost_of p
  pub slacks : (k : ℕ) → k < row_count p → basic_at d (k + 1) ≡ slack_of p k
  pub names : (t : ℕ) → t < width d → nonbasic_at d t ≡ t
  pub zero : (i t : ℕ) → i < height d → t < width d → cell d i t ≡ zero_ℚ

-- the costs before a column have been put in row 0
pub record HasCosts (p : Program) (to : ℕ) (d e : Dictionary) : Type 0 where
  pub names : HasSameNames d e
  pub before : (c : ℕ) → c < to → c < column_count p → cell e 0 (c + 1) ≡ cost_at p c
  pub after : (c : ℕ) → to ≤ c → c < column_count p → cell e 0 (c + 1) ≡ cell d 0 (c + 1)
  pub value : cell e 0 0 ≡ cell d 0 0
  pub others : (i t : ℕ) → i ≢ 0 → i < height d → t < width d → cell e i t ≡ cell d i t

-- a row has been put in
pub record GainsRow (row : Inequality) (i : ℕ) (d e : Dictionary) : Type 0 where
  pub names : HasSameNames d e
  pub constant : cell e i 0 ≡ neg_ℚ (whole row.right)
  pub entries : (t : ℕ) → 1 ≤ t → t < width d → cell e i t ≡ whole (times_of row.terms t)
  pub others : (h t : ℕ) → h ≢ i → h < height d → t < width d → cell e h t ≡ cell d h t
