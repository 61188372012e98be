-- Laws of runs by the least-index rule, in numbers of any size (Bland 1977).
use Rattle.std.specs.Prelude.{◌≡◌, ◌⊎◌, ◌≤◌, ◌<◌, ◌^◌, ℕ}
use Rattle.tableau.specs.declared.outcome.Outcome.{Outcome}
use Rattle.tableau.specs.declared.outcome.Outcome.TheVariants as outcome
use Rattle.tableau.specs.Program.{Program}
use Rattle.tableau.specs.Dictionary.{Dictionary, basic_at, cell, height, nonbasic_at, width}
use Rattle.tableau.specs.Meaning.{IsDictionaryOf}
use Rattle.tableau.specs.Run.{IsLeastIndex, Runs}
use Rattle.tableau.specs.Outcomes.{IsOutcome}
use Rattle.tableau.specs.Laws.{IsSameOutcome}
use Rattle.tableau.specs.Stepwise.{IsEndOf}
use Rattle.least_index.specs.Basis.{HasSameBasis, Leads, variable_count}

-- dictionaries of a program and of one basis have the same number for each basic and nonbasic variable
abbrev pub BasesHaveOneDictionary : Type 0
BasesHaveOneDictionary = (p : Program) (d e : Dictionary) → IsDictionaryOf p d → IsDictionaryOf p e → HasSameBasis p d e → (i t h u : ℕ) → i < height d → t < width d → h < height e → u < width e → basic_at e h ≡ basic_at d i → nonbasic_at e u ≡ nonbasic_at d t → cell e h u ≡ cell d i t

-- no pivots of a run lead back to a basis
abbrev pub NoBasisComesTwice : Type 0
NoBasisComesTwice = (p : Program) (before between : ℕ) (d e : Dictionary) → Runs IsLeastIndex p before d → Leads IsLeastIndex d between e → 1 ≤ between → HasSameBasis p d e → ⊥

-- a run has fewer pivots than there are sets of variables
abbrev pub RunsAreShort : Type 0
RunsAreShort = (p : Program) (pivots : ℕ) (d : Dictionary) → Runs IsLeastIndex p pivots d → pivots < 2 ^ variable_count p

-- a run that may make so many pivots is stopped, or its outcome is that of the run to its end
abbrev pub EndsAreOutcomes : Type 0
EndsAreOutcomes = (p : Program) (pivots : ℕ) (a b : Outcome) → pivots < 2 ^ 32 → IsOutcome p pivots a → IsEndOf p b → (a ≡ outcome.Stopped pivots) ⊎ IsSameOutcome a b
