-- Pivots that are made in rounds.
use Rattle.std.specs.Prelude.{◌≡◌, ◌+◌, ◌-◌, ◌^◌, ℕ, min}
use Rattle.tableau.specs.declared.run.StepSays.{StepSays}
use Rattle.tableau.specs.declared.run.StepSays.TheVariants.{Moved, Ended, Passed}
use Rattle.tableau.specs.Program.{Program}
use Rattle.tableau.specs.Dictionary.{Dictionary}
use Rattle.tableau.specs.Run.{IsFittingStep, Runs}
use Rattle.tableau.specs.Outcomes.{IsRefused}
use Rattle.tableau.specs.Stepwise.{IsAtEnd, State, at}

-- a count of pivots, which stands still at its type's end
abbrev pub counted : ℕ → ℕ
counted n = min n (2 ^ 32 - 1)

-- a state is that of the program's run after so many pivots, and this is their count
pub record IsAfter (p : Program) (n : ℕ) (s : State) (made : ℕ) : Type 0 where
  pub dictionary : Dictionary
  pub is : s ≡ at dictionary
  pub run : Runs IsFittingStep p n dictionary
  pub count : made ≡ counted n

-- after pivots of this count the next one of the program's run is refused
pub record IsPassed (p : Program) (made row column : ℕ) : Type 0 where
  pub pivots : ℕ
  pub dictionary : Dictionary
  pub run : Runs IsFittingStep p pivots dictionary
  pub refused : IsRefused dictionary row column
  pub count : made ≡ counted pivots

-- what n pivots have come to
abbrev pub HasCome : Program → ℕ → State → ℕ → StepSays → Type 0
HasCome p n s made Moved = IsAfter p n s made
HasCome p n s made Ended = IsAtEnd p s
HasCome p n s made (Passed row column) = IsPassed p made row column

-- from a state of any run to another, so many pivots have been made and counted, unless the run ended before
abbrev pub DoesMake : ℕ → State → ℕ → State → ℕ → StepSays → Type 0
DoesMake more old before new made says = (p : Program) (n : ℕ) → IsAfter p n old before → HasCome p (n + more) new made says
