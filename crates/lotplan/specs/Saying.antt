-- What a run says at its end, and how that is printed.
use Rattle.std.specs.Prelude.{◌≡◌, ◌⊎◌, ℕ, List, ◌++◌, IsTrue, Result, Ok, Err}
use Rattle.std.specs.declared.alloc.AllocError.{AllocError}
use Rattle.lot_io.specs.Outside.{AppendsSome, Printed, Rose}
use Rattle.lotplan.specs.Status.{code_of}
use Rattle.lotplan.specs.declared.said.Said.{Said}
use Rattle.lotplan.specs.declared.status.Status.{Status}
use Rattle.lotplan.specs.declared.status.Status.TheVariants.{Unprinted, NoMemory}

-- what is said has this line, or these lines, and this status
pub record IsSaid (text : List ℕ) (ending : Status) (said : Said) : Type 0 where
  pub line : said.line.items ≡ text
  pub status : said.status ≡ ending

-- where it tells, the output gained this text and nothing else
abbrev pub Gains : List ℕ → Printed → Printed → Type 0
Gains text old new = IsTrue old.told → new.bytes ≡ old.bytes ++ text

-- the text was printed and the number is that of the status, or printing failed after some of it
abbrev pub Prints : List ℕ → Status → ℕ → Printed → Printed → Type 0
Prints text ending code old new =
    ((code ≡ code_of ending) × Gains text old new)
    ⊎ ((code ≡ code_of Unprinted) × Rose old.faults new.faults × (IsTrue old.told → AppendsSome text old.bytes new.bytes))

-- what is said is printed; where memory ran out nothing is
abbrev pub Ends : Result Said AllocError → ℕ → Printed → Printed → Type 0
Ends (Ok said) code old new = Prints said.line.items said.status code old new
Ends (Err e) code old new = (code ≡ code_of NoMemory) × (new ≡ old)

-- this holds of something, and the line, or the lines, tell it
pub record Tells (A : Type 0) (Holds : A → Type 0) (line_of : A → List ℕ) (out_old out_new : Printed) : Type 0 where
  pub what : A
  pub holds : Holds what
  pub line : Gains (line_of what) out_old out_new

-- so it is with an answer that has this status
pub record TellsAs (ending : Status) (A : Type 0) (status_of : A → Status) (Holds : A → Type 0) (line_of : A → List ℕ) (out_old out_new : Printed) : Type 0 where
  pub answer : A
  pub ends : status_of answer ≡ ending
  pub holds : Holds answer
  pub line : Gains (line_of answer) out_old out_new

-- an answer has its cause, and gives this line, or these lines, and this status
pub record Answered (A : Type 0) (Why : A → Type 0) (line_of : A → List ℕ) (status_of : A → Status) (line : List ℕ) (status : Status) : Type 0 where
  pub answer : A
  pub why : Why answer
  pub says : line ≡ line_of answer
  pub ends : status ≡ status_of answer
