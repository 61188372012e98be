-- Runs in single steps.
use Rattle.std.specs.Prelude.{◌≡◌, ◌⊎◌, ◌+◌, ◌-◌, ◌^◌, ℕ, min, Bool, true, false, ⊤}
use Rattle.tableau.specs.declared.outcome.Outcome.{Outcome}
use Rattle.tableau.specs.declared.outcome.Outcome.TheVariants as outcome
use Rattle.tableau.specs.declared.run.StepSays.{StepSays}
use Rattle.tableau.specs.declared.run.StepSays.TheVariants.{Moved, Ended, Passed}
use Rattle.tableau.specs.Program.{Program}
use Rattle.tableau.specs.Dictionary.{Dictionary, IsStart, width}
use Rattle.tableau.specs.Run.{IsFittingStep, IsPrimalFeasible, IsLeaving, IsStep, Runs}
use Rattle.tableau.specs.Steps.{HasNoneTo}
use Rattle.tableau.specs.Outcomes.{GoesOn, IsOutcome, IsRefused}

-- a run is at a dictionary, or something didn't fit, of these numbers of variables
pub data State : Type 0 where
  at : Dictionary → State
  passed : ℕ → ℕ → State

-- the run ends here: no constant is negative, or the row that leaves has no column that may enter
abbrev pub HasEnded : Dictionary → Type 0
HasEnded d = IsPrimalFeasible d ⊎ ((k : ℕ) × IsLeaving d k × HasNoneTo d k (width d))

abbrev pub IsStarted : Program → State → Type 0
IsStarted p s = (d : Dictionary) × (s ≡ at d) × IsStart p d

-- what a step says, and leaves
abbrev pub DoesSay : State → State → StepSays → Type 0
DoesSay (at d) new Moved = (e : Dictionary) × (new ≡ at e) × IsStep IsFittingStep d e
DoesSay (at d) new Ended = HasEnded d × (new ≡ at d)
DoesSay (at d) new (Passed row column) = IsRefused d row column × (new ≡ passed row column)
DoesSay (passed r c) new says = (says ≡ Passed r c) × (new ≡ passed r c)

-- the run of the program has ended at this state, after so many pivots
abbrev pub IsEndAfter : Program → ℕ → State → Type 0
IsEndAfter p made s = (d : Dictionary) × (s ≡ at d) × Runs IsFittingStep p made d × HasEnded d

-- a yes where the run can't go on
abbrev pub TellsEnd : State → Bool → Type 0
TellsEnd (at d) true = HasEnded d
TellsEnd (at d) false = GoesOn d
TellsEnd (passed r c) told = ⊤

-- the run of the program has ended at this state
abbrev pub IsAtEnd : Program → State → Type 0
IsAtEnd p s = (d : Dictionary) × (s ≡ at d) × ((made : ℕ) × Runs IsFittingStep p made d) × HasEnded d

-- the outcome of the run, whatever its length: that of a run that may make enough pivots
abbrev pub IsEndOf : Program → Outcome → Type 0
IsEndOf p (outcome.Least point multipliers value) = (pivots : ℕ) × IsOutcome p pivots (outcome.Least point multipliers value)
IsEndOf p (outcome.Empty multipliers) = (pivots : ℕ) × IsOutcome p pivots (outcome.Empty multipliers)
IsEndOf p (outcome.Stopped made) = ⊥
IsEndOf p (outcome.Passed pivot row column) = (made : ℕ) × (pivot ≡ min (made + 1) (2 ^ 32 - 1)) × ((d : Dictionary) × Runs IsFittingStep p made d × IsRefused d row column)
