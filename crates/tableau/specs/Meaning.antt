-- What dictionaries say of their program.
use Rattle.std.specs.Prelude.{◌≡◌, ◌≢◌, ◌≤◌, ◌<◌, ◌+◌, ℕ, pos, if◌then◌else◌, ◌==◌}
use Rattle.rational.specs.Rational.{ℚ, whole, ◌*ℚ◌, ◌-ℚ◌, ◌≤ℚ◌}
use Rattle.tableau.specs.Program.{Program, column_count, cost_at, entry_at, right_at, row_count, sum_ℚ, zero_ℚ}
use Rattle.tableau.specs.Dictionary.{Dictionary, Meets, Solves, basic_at, cell, cost_of, height, nonbasic_at, width}
use Rattle.tableau.specs.Run.{IsPositive}

-- ---- the invariant, whatever the rule
-- the basic variables are a basis: each variable has one place; the cost is basic in row 0, and the constants stand in column 0
pub record IsBasis (p : Program) (d : Dictionary) : Type 0 where
  pub rows : height d ≡ row_count p + 1
  pub columns : width d ≡ column_count p + 1
  pub cost : basic_at d 0 ≡ cost_of p
  pub constants : nonbasic_at d 0 ≡ 0
  pub basics_low : (i : ℕ) → i < height d → 1 ≤ basic_at d i
  pub basics_high : (i : ℕ) → 1 ≤ i → i < height d → basic_at d i < cost_of p
  pub nonbasics_low : (t : ℕ) → 1 ≤ t → t < width d → 1 ≤ nonbasic_at d t
  pub nonbasics_high : (t : ℕ) → t < width d → nonbasic_at d t < cost_of p
  pub rows_apart : (i h : ℕ) → i < height d → h < height d → basic_at d i ≡ basic_at d h → i ≡ h
  pub columns_apart : (t u : ℕ) → t < width d → u < width d → nonbasic_at d t ≡ nonbasic_at d u → t ≡ u
  pub apart : (i t : ℕ) → i < height d → t < width d → basic_at d i ≢ nonbasic_at d t

-- the same values fulfil the program's definitions and the dictionary
pub record SaysTheSame (p : Program) (d : Dictionary) : Type 0 where
  pub solves : (x : ℕ → ℚ) → Meets p x → Solves d x
  pub meets : (x : ℕ → ℚ) → Solves d x → Meets p x

-- no reduced cost is negative: the basis is dual feasible
abbrev pub IsDualFeasible : Dictionary → Type 0
IsDualFeasible d = (t : ℕ) → 1 ≤ t → t < width d → zero_ℚ ≤ℚ cell d 0 t

pub record IsDictionaryOf (p : Program) (d : Dictionary) : Type 0 where
  pub names : IsBasis p d
  pub same : SaysTheSame p d
  pub dual : IsDualFeasible d

-- ---- what the end of a run says
-- the value of a variable where the nonbasic ones are 0
abbrev pub value_at : Dictionary → ℕ → ℚ
value_at d v = sum_ℚ (height d) (λ i. if basic_at d i == v then cell d i 0 else zero_ℚ)

-- the coefficient of a variable in a row, 0 where it is basic
abbrev pub coefficient_at : Dictionary → ℕ → ℕ → ℚ
coefficient_at d i v = sum_ℚ (width d) (λ t. if nonbasic_at d t == v then cell d i t else zero_ℚ)

-- 1 for the row's own variable, and for others the coefficient with its sign changed
abbrev pub opposite_at : Dictionary → ℕ → ℕ → ℚ
opposite_at d i v = (if basic_at d i == v then whole (pos 1) else zero_ℚ) -ℚ coefficient_at d i v

-- ---- points and multipliers, by place
-- at least 0, and each row is met
pub record IsFeasible (p : Program) (x : ℕ → ℚ) : Type 0 where
  pub columns : (c : ℕ) → c < column_count p → zero_ℚ ≤ℚ x c
  pub rows : (k : ℕ) → k < row_count p → right_at p k ≤ℚ sum_ℚ (column_count p) (λ c. entry_at p k c *ℚ x c)

abbrev pub cost_sum : Program → (ℕ → ℚ) → ℚ
cost_sum p x = sum_ℚ (column_count p) (λ c. cost_at p c *ℚ x c)

abbrev pub column_sum : Program → (ℕ → ℚ) → ℕ → ℚ
column_sum p y c = sum_ℚ (row_count p) (λ k. y k *ℚ entry_at p k c)

abbrev pub right_sum : Program → (ℕ → ℚ) → ℚ
right_sum p y = sum_ℚ (row_count p) (λ k. y k *ℚ right_at p k)

abbrev pub AreNonnegative : Program → (ℕ → ℚ) → Type 0
AreNonnegative p y = (k : ℕ) → k < row_count p → zero_ℚ ≤ℚ y k

-- a point and multipliers that prove it best
pub record AreBest (p : Program) (x y : ℕ → ℚ) (value : ℚ) : Type 0 where
  pub feasible : IsFeasible p x
  pub cost : cost_sum p x ≡ value
  pub multipliers : AreNonnegative p y
  pub columns : (c : ℕ) → c < column_count p → column_sum p y c ≤ℚ cost_at p c
  pub right : right_sum p y ≡ value

-- multipliers that leave no point
pub record AreEmpty (p : Program) (y : ℕ → ℚ) : Type 0 where
  pub multipliers : AreNonnegative p y
  pub columns : (c : ℕ) → c < column_count p → column_sum p y c ≤ℚ zero_ℚ
  pub right : IsPositive (right_sum p y)
