-- How steps and runs end.
use Rattle.std.specs.Prelude.{◌≡◌, ◌≢◌, ◌⊎◌, ◌≤◌, ◌<◌, ◌+◌, ℕ, List, length, slice_index_or, if◌then◌else◌, ◌==◌, ⊤}
use Rattle.rational.specs.Rational.{ℚ}
use Rattle.tableau.specs.declared.step.Step.{Step}
use Rattle.tableau.specs.declared.step.Step.TheVariants.{Last, Empty, Pivoted, Refused}
use Rattle.tableau.specs.declared.outcome.Outcome.{Outcome}
use Rattle.tableau.specs.declared.outcome.Outcome.TheVariants as outcome
use Rattle.tableau.specs.Program.{Program, column_count, row_count, zero_ℚ}
use Rattle.tableau.specs.Dictionary.{Dictionary, basic_at, cell, height, nonbasic_at, slack_of, width}
use Rattle.tableau.specs.Run.{IsCandidate, IsEntering, IsFittingStep, IsPrimalFeasible, IsLeaving, IsStep, Runs, UpdateFits}
use Rattle.tableau.specs.Meaning.{AreBest, AreEmpty, coefficient_at, opposite_at, value_at}
use Rattle.tableau.specs.Steps.{HasNoneTo, IsRefusedRatio}

-- the number that stands for a row in an outcome
abbrev pub row_number : Dictionary → ℕ → ℕ
row_number d i = if i == 0 then 0 else basic_at d i

-- a cell whose update doesn't fit
pub record IsRefusedUpdate (d : Dictionary) (k row column : ℕ) : Type 0 where
  pub pivot_column : ℕ
  pub entering : IsEntering d k pivot_column
  pub cell_row : ℕ
  pub cell_column : ℕ
  pub row_high : cell_row < height d
  pub column_high : cell_column < width d
  pub refused : UpdateFits d k pivot_column cell_row cell_column → ⊥
  pub row_is : row ≡ row_number d cell_row
  pub column_is : column ≡ nonbasic_at d cell_column

-- a ratio or a cell of the next pivot doesn't fit; these are the numbers of its variables
pub record IsRefused (d : Dictionary) (row column : ℕ) : Type 0 where
  pub pivot_row : ℕ
  pub leaving : IsLeaving d pivot_row
  pub which : ((t : ℕ) × IsRefusedRatio d pivot_row t × (row ≡ 0) × (column ≡ nonbasic_at d t)) ⊎ IsRefusedUpdate d pivot_row row column

abbrev pub DoesStep : Dictionary → Dictionary → Step → Type 0
DoesStep d e Last = IsPrimalFeasible d × (e ≡ d)
DoesStep d e (Empty k) = IsLeaving d k × HasNoneTo d k (width d) × (e ≡ d)
DoesStep d e Pivoted = IsStep IsFittingStep d e
DoesStep d e (Refused row column) = IsRefused d row column

-- a number of a list by its place
abbrev pub number_at : List ℚ → ℕ → ℚ
number_at xs k = slice_index_or xs k zero_ℚ

-- a dictionary of the run, all of whose ratios and updates before it fit, after at most so many pivots
pub record IsReached (p : Program) (pivots : ℕ) (d : Dictionary) : Type 0 where
  pub made : ℕ
  pub few : made ≤ pivots
  pub run : Runs IsFittingStep p made d

-- the point and the multipliers of the last dictionary
pub record IsLeastOf (p : Program) (d : Dictionary) (xs ys : List ℚ) (x : ℚ) : Type 0 where
  pub last : IsPrimalFeasible d
  pub columns : length xs ≡ column_count p
  pub point : (c : ℕ) → c < column_count p → number_at xs c ≡ value_at d (c + 1)
  pub rows : length ys ≡ row_count p
  pub multipliers : (k : ℕ) → k < row_count p → number_at ys k ≡ coefficient_at d 0 (slack_of p k)
  pub value : x ≡ cell d 0 0

-- the multipliers of a row that can't hold
pub record IsEmptyOf (p : Program) (d : Dictionary) (ys : List ℚ) : Type 0 where
  pub row : ℕ
  pub leaving : IsLeaving d row
  pub none : HasNoneTo d row (width d)
  pub rows : length ys ≡ row_count p
  pub multipliers : (k : ℕ) → k < row_count p → number_at ys k ≡ opposite_at d row (slack_of p k)

-- the run goes on
pub record GoesOn (d : Dictionary) : Type 0 where
  pub row : ℕ
  pub leaving : IsLeaving d row
  pub column : ℕ
  pub candidate : IsCandidate d row column

-- the outcome is that of the least-index run
abbrev pub IsOutcome : Program → ℕ → Outcome → Type 0
IsOutcome p pivots (outcome.Least point multipliers value) = (d : Dictionary) × IsReached p pivots d × IsLeastOf p d point.items multipliers.items value
IsOutcome p pivots (outcome.Empty multipliers) = (d : Dictionary) × IsReached p pivots d × IsEmptyOf p d multipliers.items
IsOutcome p pivots (outcome.Stopped made) = (made ≡ pivots) × ((d : Dictionary) × Runs IsFittingStep p pivots d × GoesOn d)
IsOutcome p pivots (outcome.Passed pivot row column) = (made : ℕ) × (pivot ≡ made + 1) × (pivot ≤ pivots) × ((d : Dictionary) × Runs IsFittingStep p made d × IsRefused d row column)

-- and proves what it says, without the run
abbrev pub IsCertain : Program → Outcome → Type 0
IsCertain p (outcome.Least point multipliers value) = AreBest p (number_at point.items) (number_at multipliers.items) value
IsCertain p (outcome.Empty multipliers) = AreEmpty p (number_at multipliers.items)
IsCertain p (outcome.Stopped made) = ⊤
IsCertain p (outcome.Passed pivot row column) = ⊤

-- numbers below a bound have different names
abbrev pub AreApart : ℕ → (ℕ → ℕ) → Type 0
AreApart n f = (i h : ℕ) → i < n → h < n → f i ≡ f h → i ≡ h

-- the values of so many variables from one on
pub record AreValues (value : ℕ → ℚ) (first count : ℕ) (xs : List ℚ) : Type 0 where
  pub size : length xs ≡ count
  pub each : (k : ℕ) → k < count → number_at xs k ≡ value (first + k)

-- the value of a number is put in its place, if it has one
pub record IsPutIn (first number : ℕ) (x : ℚ) (xs ys : List ℚ) : Type 0 where
  pub size : length ys ≡ length xs
  pub each : (k : ℕ) → k < length xs → number_at ys k ≡ (if number == first + k then x else number_at xs k)

-- a row's variable has no column
abbrev pub IsNowhere : Dictionary → ℕ → Type 0
IsNowhere d i = (t : ℕ) → t < width d → nonbasic_at d t ≢ basic_at d i

abbrev pub GivesLeast : Dictionary → ℕ → ℕ → Outcome → Type 0
GivesLeast d columns rows (outcome.Least point multipliers value) = AreValues (value_at d) 1 columns point.items × AreValues (coefficient_at d 0) (columns + 1) rows multipliers.items × (value ≡ cell d 0 0)
GivesLeast d columns rows _ = ⊥

abbrev pub GivesEmpty : Dictionary → ℕ → ℕ → ℕ → Outcome → Type 0
GivesEmpty d i columns rows (outcome.Empty multipliers) = AreValues (opposite_at d i) (columns + 1) rows multipliers.items
GivesEmpty d i columns rows _ = ⊥
