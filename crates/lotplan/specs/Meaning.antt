-- What a command means. Each command has its own meaning in its own file, and `Run` says which words mean which.
use Rattle.std.specs.Prelude.{◌≡◌, ℕ, List, [], ◌++◌, codes, decimal}
use Rattle.lot_io.specs.Outside.{Files, Shelved}
use Rattle.plan_page.specs.declared.limits.TheConstants.{MAX_PAGE}
use Rattle.lotplan.specs.Reading.{ReadAnswer}
use Rattle.lotplan.specs.declared.said.Said.{Said}
use Rattle.lotplan.specs.declared.status.Status.{Status}

-- the line of a page that would be longer than it may be, which names the limit in bytes
abbrev pub long_page_line : List ℕ
long_page_line = codes "refused page " ++ (decimal MAX_PAGE ++ codes "\n")

pub record Meaning : Type 1 where
  -- what a run does: the files before and after, the line or lines, and the status
  pub does : Shelved → Shelved → List ℕ → Status → Type 0
  -- the files that are read whole, and those that are read in passes
  pub reads : List (List ℕ)
  pub passes : List (List ℕ)
  -- the files that may be written, in their order
  pub writes : List (List ℕ)
  -- why they gave nothing to go on with
  pub stops : Shelved → Shelved → ReadAnswer → Type 0
  -- why a page would be longer than it may be
  pub overlong : Shelved → Type 0
  -- the status that they call for, faults and out of memory aside
  pub calls_for : Files → ℕ → Type 0
  -- they may call for `UNDECIDED` beside another status
  pub may_be_left : Files → Type 0

-- that of a command which reads its files whole, makes no page and leaves nothing open
abbrev pub whole_meaning : (Shelved → Shelved → List ℕ → Status → Type 0) → (reads writes : List (List ℕ)) → (Shelved → Shelved → ReadAnswer → Type 0) → (Files → ℕ → Type 0) → Meaning
whole_meaning does reads writes stops calls_for = record {
  does = does;
  reads = reads;
  passes = [];
  writes = writes;
  stops = stops;
  overlong = λ old. ⊥;
  calls_for = calls_for;
  may_be_left = λ file. ⊥;
}

-- and of one which reads no file, and calls for this status whatever files there are
abbrev pub fixed_meaning : (Shelved → Shelved → List ℕ → Status → Type 0) → (writes : List (List ℕ)) → (number : ℕ) → Meaning
fixed_meaning does writes number = whole_meaning does [] writes (λ old new why. ⊥) (λ file status. status ≡ number)

-- what is said is what a run of the command comes to
abbrev pub Says : Meaning → Shelved → Shelved → Said → Type 0
Says means old new said = means.does old new said.line.items said.status
