-- Runs of pivots, by any rule and by the least-index rule.
use Rattle.std.specs.Prelude.{◌≡◌, ◌≢◌, ◌≤◌, ◌<◌, ◌-ℤ◌, ℕ, zero, suc}
use Rattle.rational.specs.Rational.{ℚ, inv_ℚ, neg_ℚ, ◌*ℚ◌, ◌≤ℚ◌}
use Rattle.frac128.specs.Limits.{divided_ℚ, Fits, SumFits}
use Rattle.tableau.specs.Program.{Program, zero_ℚ}
use Rattle.tableau.specs.Dictionary.{Dictionary, IsPivoted, IsStart, basic_at, cell, factor_at, height, nonbasic_at, width}

abbrev pub IsNegative : ℚ → Type 0
IsNegative x = zero_ℚ ≤ℚ x → ⊥

abbrev pub IsPositive : ℚ → Type 0
IsPositive x = x ≤ℚ zero_ℚ → ⊥

-- which row and which column change places
abbrev pub Rule : Type 1
Rule = Dictionary → ℕ → ℕ → Type 0

-- one pivot by a rule
pub record IsStep (rule : Rule) (d e : Dictionary) : Type 0 where
  pub row : ℕ
  pub column : ℕ
  pub chosen : rule d row column
  pub pivoted : IsPivoted d row column e

-- this is the dictionary after so many pivots by the rule
abbrev pub Runs : Rule → Program → ℕ → Dictionary → Type 0
Runs rule p zero e = IsStart p e
Runs rule p (suc n) e = (d : Dictionary) × Runs rule p n d × IsStep rule d e

-- ---- the least-index rule
-- the least-numbered basic variable with a negative constant
pub record IsLeaving (d : Dictionary) (k : ℕ) : Type 0 where
  pub low : 1 ≤ k
  pub high : k < height d
  pub negative : IsNegative (cell d k 0)
  pub least : (i : ℕ) → 1 ≤ i → i < height d → IsNegative (cell d i 0) → basic_at d k ≤ basic_at d i

-- a column whose variable has a positive coefficient in the row
pub record IsCandidate (d : Dictionary) (k t : ℕ) : Type 0 where
  pub low : 1 ≤ t
  pub high : t < width d
  pub positive : IsPositive (cell d k t)

-- the reduced cost by the coefficient
abbrev pub ratio_at : Dictionary → ℕ → ℕ → ℚ
ratio_at d k t = divided_ℚ (cell d 0 t) (cell d k t)

-- the candidate of the least ratio, and among those the least-numbered
pub record IsEntering (d : Dictionary) (k j : ℕ) : Type 0 where
  pub candidate : IsCandidate d k j
  pub least : (t : ℕ) → IsCandidate d k t → ratio_at d k j ≤ℚ ratio_at d k t
  pub ties : (t : ℕ) → IsCandidate d k t → ratio_at d k j ≡ ratio_at d k t → nonbasic_at d j ≤ nonbasic_at d t

pub record IsLeastIndex (d : Dictionary) (k j : ℕ) : Type 0 where
  pub leaving : IsLeaving d k
  pub entering : IsEntering d k j

-- no constant is negative: the basis is primal feasible
abbrev pub IsPrimalFeasible : Dictionary → Type 0
IsPrimalFeasible d = (i : ℕ) → 1 ≤ i → i < height d → zero_ℚ ≤ℚ cell d i 0

-- ---- which ratios and updates fit
abbrev pub RatioFits : Dictionary → ℕ → ℕ → Type 0
RatioFits d k t = Fits (ratio_at d k t)

-- the update of a cell of the pivot row is a quotient; a cell of 0 stays
abbrev pub RowFits : Dictionary → ℕ → ℕ → ℕ → Type 0
RowFits d k j t = (t ≡ j → Fits (inv_ℚ (cell d k j))) × (t ≢ j → cell d k t ≢ zero_ℚ → Fits (divided_ℚ (cell d k t) (neg_ℚ (cell d k j))))

-- that of another row has a factor, whose place is the pivot column, a product and a difference
pub record OtherFits (d : Dictionary) (k j i t : ℕ) : Type 0 where
  pub factor : t ≡ j → Fits (factor_at d k j i)
  pub product : t ≢ j → cell d i j ≢ zero_ℚ → cell d k t ≢ zero_ℚ → Fits (factor_at d k j i *ℚ cell d k t)
  pub difference : t ≢ j → cell d i j ≢ zero_ℚ → cell d k t ≢ zero_ℚ → SumFits ◌-ℤ◌ (cell d i t) (factor_at d k j i *ℚ cell d k t)

abbrev pub UpdateFits : Dictionary → ℕ → ℕ → ℕ → ℕ → Type 0
UpdateFits d k j i t = (i ≡ k → RowFits d k j t) × (i ≢ k → OtherFits d k j i t)

-- all that a pivot computes fits
pub record StepFits (d : Dictionary) (k j : ℕ) : Type 0 where
  pub ratios : (t : ℕ) → IsCandidate d k t → RatioFits d k t
  pub updates : (i t : ℕ) → i < height d → t < width d → UpdateFits d k j i t

-- the least-index rule where all fits
pub record IsFittingStep (d : Dictionary) (k j : ℕ) : Type 0 where
  pub step : IsLeastIndex d k j
  pub fits : StepFits d k j
