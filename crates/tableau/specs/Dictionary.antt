-- Dictionaries: the basic variables and the cost as sums over the nonbasic variables.
use Rattle.std.specs.Prelude.{◌≡◌, ◌≢◌, ◌<◌, ◌+◌, ◌*◌, ℕ, List, length, slice_index_or}
use Rattle.rational.specs.Rational.{ℚ, inv_ℚ, neg_ℚ, ◌*ℚ◌, ◌-ℚ◌}
use Rattle.frac128.specs.Limits.{divided_ℚ}
use Rattle.tableau.specs.Program.{Program, column_count, cost_at, entry_at, right_at, row_count, sum_ℚ, zero_ℚ}

-- Row 0 is the cost's, and column 0 has the constants. A row is a variable's number and a cell for each column.
-- The type `Tableau` holds one.
pub record Dictionary : Type 0 where
  pub basic : List ℕ
  pub nonbasic : List ℕ
  pub cells : List ℚ

abbrev pub height : Dictionary → ℕ
height d = length d.basic

abbrev pub width : Dictionary → ℕ
width d = length d.nonbasic

-- the variable of a row, and that of a column
abbrev pub basic_at : Dictionary → ℕ → ℕ
basic_at d i = slice_index_or d.basic i 0

abbrev pub nonbasic_at : Dictionary → ℕ → ℕ
nonbasic_at d t = slice_index_or d.nonbasic t 0

abbrev pub cell : Dictionary → ℕ → ℕ → ℚ
cell d i t = slice_index_or d.cells (i * width d + t) zero_ℚ

-- these values of the variables fulfil the dictionary; variable 0 stands for the constants
abbrev pub Solves : Dictionary → (ℕ → ℚ) → Type 0
Solves d x = (i : ℕ) → i < height d → x (basic_at d i) ≡ sum_ℚ (width d) (λ t. cell d i t *ℚ x (nonbasic_at d t))

-- ---- the numbers of the variables: columns, then slacks in the order of their rows, then the cost
abbrev pub slack_of : Program → ℕ → ℕ
slack_of p k = column_count p + 1 + k

abbrev pub cost_of : Program → ℕ
cost_of p = column_count p + 1 + row_count p

-- these values fulfil the program's definitions of slacks and cost
pub record Meets (p : Program) (x : ℕ → ℚ) : Type 0 where
  pub cost : x (cost_of p) ≡ sum_ℚ (column_count p) (λ c. cost_at p c *ℚ x (c + 1))
  pub slacks : (k : ℕ) → k < row_count p → x (slack_of p k) ≡ sum_ℚ (column_count p) (λ c. entry_at p k c *ℚ x (c + 1)) -ℚ right_at p k *ℚ x 0

-- ---- the first dictionary: the slacks are basic
pub record IsStart (p : Program) (d : Dictionary) : Type 0 where
  pub rows : height d ≡ row_count p + 1
  pub columns : width d ≡ column_count p + 1
  pub first : basic_at d 0 ≡ cost_of p
  pub slacks : (k : ℕ) → k < row_count p → basic_at d (k + 1) ≡ slack_of p k
  pub names : (t : ℕ) → t < width d → nonbasic_at d t ≡ t
  pub value : cell d 0 0 ≡ zero_ℚ
  pub costs : (c : ℕ) → c < column_count p → cell d 0 (c + 1) ≡ cost_at p c
  pub constants : (k : ℕ) → k < row_count p → cell d (k + 1) 0 ≡ neg_ℚ (right_at p k)
  pub entries : (k c : ℕ) → k < row_count p → c < column_count p → cell d (k + 1) (c + 1) ≡ entry_at p k c

-- ---- a pivot: the variables of a row and a column change places
-- what a row other than the pivot row has of it
abbrev pub factor_at : Dictionary → ℕ → ℕ → ℕ → ℚ
factor_at d k j i = divided_ℚ (cell d i j) (cell d k j)

pub record IsPivoted (d : Dictionary) (k j : ℕ) (e : Dictionary) : Type 0 where
  pub rows : height e ≡ height d
  pub columns : width e ≡ width d
  pub entered : basic_at e k ≡ nonbasic_at d j
  pub left : nonbasic_at e j ≡ basic_at d k
  pub basics : (i : ℕ) → i < height d → i ≢ k → basic_at e i ≡ basic_at d i
  pub nonbasics : (t : ℕ) → t < width d → t ≢ j → nonbasic_at e t ≡ nonbasic_at d t
  pub corner : cell e k j ≡ inv_ℚ (cell d k j)
  pub pivot_row : (t : ℕ) → t < width d → t ≢ j → cell e k t ≡ divided_ℚ (cell d k t) (neg_ℚ (cell d k j))
  pub pivot_column : (i : ℕ) → i < height d → i ≢ k → cell e i j ≡ factor_at d k j i
  pub others : (i t : ℕ) → i < height d → t < width d → i ≢ k → t ≢ j → cell e i t ≡ cell d i t -ℚ factor_at d k j i *ℚ cell d k t
