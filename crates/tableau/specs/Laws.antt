-- Laws of runs.
use Rattle.std.specs.Prelude.{◌≡◌, ◌≤◌, ◌<◌, ◌^◌, ℕ, unsigned_abs}
use Rattle.rational.specs.Rational.{ℚ, ◌≤ℚ◌}
use Rattle.tableau.specs.Dictionary.{Dictionary, IsPivoted, IsStart, basic_at, cell, height, nonbasic_at, width}
use Rattle.tableau.specs.Program.{Program}
use Rattle.tableau.specs.Run.{IsCandidate, IsFittingStep, Runs, ratio_at}
use Rattle.tableau.specs.Meaning.{IsDictionaryOf}
use Rattle.tableau.specs.declared.outcome.Outcome.{Outcome}
use Rattle.tableau.specs.declared.outcome.Outcome.TheVariants as outcome
use Rattle.tableau.specs.Outcomes.{GoesOn, IsOutcome, IsRefused}

-- numerator and denominator are below 2^31
pub record IsTiny (x : ℚ) : Type 0 where
  pub num : unsigned_abs x.num < 2 ^ 31
  pub den : unsigned_abs x.den < 2 ^ 31

abbrev pub HasSmallCells : Dictionary → Type 0
HasSmallCells d = (i t : ℕ) → i < height d → t < width d → IsTiny (cell d i t)

-- no ratio and no update of small cells is refused
abbrev pub SmallNumbersFit : Type 0
SmallNumbersFit = (d : Dictionary) → HasSmallCells d → (row column : ℕ) → IsRefused d row column → ⊥

-- the same names and the same numbers in all places
pub record IsAlike (d e : Dictionary) : Type 0 where
  pub some : 1 ≤ width d
  pub rows : height e ≡ height d
  pub columns : width e ≡ width d
  pub basics : (i : ℕ) → i < height d → basic_at e i ≡ basic_at d i
  pub nonbasics : (t : ℕ) → t < width d → nonbasic_at e t ≡ nonbasic_at d t
  pub cells : (i t : ℕ) → i < height d → t < width d → cell e i t ≡ cell d i t

-- so many pivots of a program lead to one dictionary
abbrev pub RunsAreOne : Type 0
RunsAreOne = (p : Program) (n : ℕ) (d e : Dictionary) → Runs IsFittingStep p n d → Runs IsFittingStep p n e → IsAlike d e

-- where so many pivots have been made and the run goes on, no other outcome is that of the run
abbrev pub StopsExactly : Type 0
StopsExactly = (p : Program) (pivots : ℕ) (d : Dictionary) → Runs IsFittingStep p pivots d → GoesOn d → (end : Outcome) → IsOutcome p pivots end → end ≡ outcome.Stopped pivots

-- the same outcome; of two refusals the pivot is the same
abbrev pub IsSameOutcome : Outcome → Outcome → Type 0
IsSameOutcome (outcome.Least point multipliers value) (outcome.Least others more cost) = (point.items ≡ others.items) × (multipliers.items ≡ more.items) × (value ≡ cost)
IsSameOutcome (outcome.Empty multipliers) (outcome.Empty more) = multipliers.items ≡ more.items
IsSameOutcome (outcome.Stopped made) (outcome.Stopped done) = made ≡ done
IsSameOutcome (outcome.Passed pivot row column) (outcome.Passed other r c) = pivot ≡ other
IsSameOutcome _ _ = ⊥

-- a run has one outcome
abbrev pub OutcomesAreOne : Type 0
OutcomesAreOne = (p : Program) (pivots : ℕ) (a b : Outcome) → IsOutcome p pivots a → IsOutcome p pivots b → IsSameOutcome a b

-- a pivot of a row that isn't the cost's in a column of positive coefficient and least ratio
pub record IsDualPivot (d : Dictionary) (k j : ℕ) (e : Dictionary) : Type 0 where
  pub low : 1 ≤ k
  pub high : k < height d
  pub candidate : IsCandidate d k j
  pub least : (t : ℕ) → IsCandidate d k t → ratio_at d k j ≤ℚ ratio_at d k t
  pub pivoted : IsPivoted d k j e

-- the first dictionary says what its program says and has no negative reduced cost, and such pivots keep that, by whatever rule they are chosen
pub record AreKept (p : Program) : Type 0 where
  pub start : (d : Dictionary) → IsStart p d → IsDictionaryOf p d
  pub pivot : (d e : Dictionary) (k j : ℕ) → IsDictionaryOf p d → IsDualPivot d k j e → IsDictionaryOf p e

abbrev pub DictionariesAreKept : Type 0
DictionariesAreKept = (p : Program) → AreKept p
