-- What loops have done so far.
use Rattle.std.specs.Prelude.{◌≡◌, ◌≢◌, ◌≤◌, ◌<◌, ◌+◌, ℕ, List, length, take, if◌then◌else◌, ◌==◌, Option, Some, None}
use Rattle.rational.specs.Rational.{ℚ, whole, neg_ℚ, ◌*ℚ◌, ◌-ℚ◌, ◌≤ℚ◌}
use Rattle.frac128.specs.Limits.{Fits}
use Rattle.tableau.specs.Program.{Inequality, Program, column_count, cost_at, entry_at, right_at, row_count, sum_ℚ, times_of, zero_ℚ}
use Rattle.tableau.specs.Dictionary.{Dictionary, basic_at, cell, cost_of, factor_at, height, nonbasic_at, slack_of, width}
use Rattle.tableau.specs.Run.{IsCandidate, IsNegative, OtherFits, ratio_at}
use Rattle.tableau.specs.Meaning.{coefficient_at}
use Rattle.tableau.specs.Steps.{CellFits, HasNoneTo, HasSameNames}
use Rattle.tableau.specs.Outcomes.{number_at}

-- ---- the searches, before a row or a column
abbrev pub HasNoNegativeTo : Dictionary → ℕ → Type 0
HasNoNegativeTo d to = (i : ℕ) → 1 ≤ i → i < to → zero_ℚ ≤ℚ cell d i 0

pub record IsLowestTo (d : Dictionary) (to k : ℕ) : Type 0 where
  pub low : 1 ≤ k
  pub high : k < height d
  pub negative : IsNegative (cell d k 0)
  pub least : (i : ℕ) → 1 ≤ i → i < to → IsNegative (cell d i 0) → basic_at d k ≤ basic_at d i

pub record IsBestTo (d : Dictionary) (k to j : ℕ) (x : ℚ) : Type 0 where
  pub candidate : IsCandidate d k j
  pub ratio : x ≡ ratio_at d k j
  pub least : (t : ℕ) → t < to → IsCandidate d k t → x ≤ℚ ratio_at d k t
  pub ties : (t : ℕ) → t < to → IsCandidate d k t → x ≡ ratio_at d k t → nonbasic_at d j ≤ nonbasic_at d t

abbrev pub IsLowestOrNone : Dictionary → ℕ → Option ℕ → Type 0
IsLowestOrNone d to None = HasNoNegativeTo d to
IsLowestOrNone d to (Some k) = IsLowestTo d to k

abbrev pub IsBestOrNone : Dictionary → ℕ → ℕ → Option (ℕ × ℚ) → Type 0
IsBestOrNone d k to None = HasNoneTo d k to
IsBestOrNone d k to (Some (j, x)) = IsBestTo d k to j x

-- ---- the lists, the first dictionary and the pivot
-- the constant of a row
abbrev pub constant_at : Dictionary → ℕ → ℚ
constant_at d i = cell d i 0

-- the values that the first names put in their places
pub record ArePut (f : ℕ → ℕ) (g : ℕ → ℚ) (first count to : ℕ) (xs : List ℚ) : Type 0 where
  pub size : length xs ≡ count
  pub each : (k : ℕ) → k < count → number_at xs k ≡ sum_ℚ to (λ i. if f i == first + k then g i else zero_ℚ)

-- coefficients before a place have changed their sign
pub record AreOpposite (d : Dictionary) (i first count to : ℕ) (xs : List ℚ) : Type 0 where
  pub size : length xs ≡ count
  pub before : (k : ℕ) → k < to → k < count → number_at xs k ≡ zero_ℚ -ℚ coefficient_at d i (first + k)
  pub after : (k : ℕ) → to ≤ k → k < count → number_at xs k ≡ coefficient_at d i (first + k)

-- the first terms of a row have been put in
pub record HasTermsTo (row : Inequality) (i : ℕ) (to : ℕ) (d e : Dictionary) : Type 0 where
  pub names : HasSameNames d e
  pub constant : cell e i 0 ≡ neg_ℚ (whole row.right)
  pub entries : (t : ℕ) → 1 ≤ t → t < width d → cell e i t ≡ whole (times_of (take to row.terms) t)
  pub others : (h t : ℕ) → h ≢ i → h < height d → t < width d → cell e h t ≡ cell d h t

-- the rows before one have been put in, and the costs
pub record IsStartTo (p : Program) (to : ℕ) (d : Dictionary) : Type 0 where
  pub rows : height d ≡ row_count p + 1
  pub columns : width d ≡ column_count p + 1
  pub first : basic_at d 0 ≡ cost_of p
  pub slacks : (k : ℕ) → k < row_count p → basic_at d (k + 1) ≡ slack_of p k
  pub names : (t : ℕ) → t < width d → nonbasic_at d t ≡ t
  pub value : cell d 0 0 ≡ zero_ℚ
  pub costs : (c : ℕ) → c < column_count p → cell d 0 (c + 1) ≡ cost_at p c
  pub constants : (k : ℕ) → k < to → k < row_count p → cell d (k + 1) 0 ≡ neg_ℚ (right_at p k)
  pub entries : (k c : ℕ) → k < to → k < row_count p → c < column_count p → cell d (k + 1) (c + 1) ≡ entry_at p k c
  pub zero : (k t : ℕ) → to ≤ k → k < row_count p → t < width d → cell d (k + 1) t ≡ zero_ℚ

-- a row has been updated before a column; the pivot column comes last
pub record IsRowTo (d : Dictionary) (k j i : ℕ) (factor : ℚ) (to : ℕ) (e : Dictionary) : Type 0 where
  pub names : HasSameNames d e
  pub others : (h u : ℕ) → h < height d → u < width d → h ≢ i → cell e h u ≡ cell d h u
  pub before : (u : ℕ) → u < to → u < width d → u ≢ j → cell e i u ≡ cell d i u -ℚ factor *ℚ cell d k u
  pub fits : (u : ℕ) → u < to → u < width d → u ≢ j → CellFits d k i u factor
  pub after : (u : ℕ) → to ≤ u → u < width d → cell e i u ≡ cell d i u

-- the rows before one have been updated, the pivot row apart
pub record AreRowsTo (d : Dictionary) (k j : ℕ) (to : ℕ) (e : Dictionary) : Type 0 where
  pub names : HasSameNames d e
  pub cells : (i u : ℕ) → i < to → i < height d → i ≢ k → u < width d → u ≢ j → cell e i u ≡ cell d i u -ℚ factor_at d k j i *ℚ cell d k u
  pub column : (i : ℕ) → i < to → i < height d → i ≢ k → cell e i j ≡ factor_at d k j i
  pub fits : (i u : ℕ) → i < to → i < height d → i ≢ k → u < width d → OtherFits d k j i u
  pub after : (i u : ℕ) → to ≤ i → i < height d → u < width d → cell e i u ≡ cell d i u
  pub pivot_row : (u : ℕ) → u < width d → cell e k u ≡ cell d k u

-- the pivot row has been multiplied before a column, but for the pivot column
pub record IsDividedTo (d : Dictionary) (k j : ℕ) (factor : ℚ) (to : ℕ) (e : Dictionary) : Type 0 where
  pub names : HasSameNames d e
  pub others : (h u : ℕ) → h < height d → u < width d → h ≢ k → cell e h u ≡ cell d h u
  pub cells : (u : ℕ) → u < to → u < width d → u ≢ j → cell e k u ≡ cell d k u *ℚ factor
  pub fits : (u : ℕ) → u < to → u < width d → u ≢ j → cell d k u ≢ zero_ℚ → Fits (cell d k u *ℚ factor)
  pub after : (u : ℕ) → to ≤ u → u < width d → cell e k u ≡ cell d k u
