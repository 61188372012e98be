-- What a command calls for is one status, but for `UNDECIDED` where it may be left open, and there is one.
use Rattle.std.specs.Prelude.{◌≡◌, ◌⊎◌, ℕ, Option}
use Rattle.lot_io.specs.Outside.{Files}
use Rattle.command_line.specs.Words.{Request}
use Rattle.lotplan.specs.Run.{CallFor, meaning_of}
use Rattle.lotplan.specs.declared.status.TheConstants.{UNDECIDED}

abbrev pub StatusesAreOne : Type 0
StatusesAreOne =
    (request : Option Request) (file : Files) (status other : ℕ) → CallFor request file status → CallFor request file other
    → (status ≡ other) ⊎ ((meaning_of request).may_be_left file × ((status ≡ UNDECIDED) ⊎ (other ≡ UNDECIDED)))

-- and all words and files call for some
abbrev pub StatusesExist : Type 0
StatusesExist = (request : Option Request) (file : Files) → (status : ℕ) × CallFor request file status
