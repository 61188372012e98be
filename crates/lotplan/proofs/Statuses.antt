-- The words and the files call for one status, and for some.
use Rattle.std.proofs.Common.{◌≡◌, ◌⊎◌, ℕ, Option}
use Rattle.lot_io.specs.Outside.{Files}
use Rattle.command_line.specs.Words.{Request}
use Rattle.lotplan.specs.Run.{CallFor, meaning_of}
use Rattle.lotplan.proofs.Calls.{AreLaws, Grounds, OneIsUndecided}
use Rattle.lotplan.proofs.EachKept.{kept_of}

pub call_one : AreLaws → (request : Option Request) (file : Files) (s t : ℕ) → CallFor request file s → CallFor request file t → (s ≡ t) ⊎ ((meaning_of request).may_be_left file × OneIsUndecided s t)
call_one laws request file s t a b = (kept_of request).one laws file s t a b

pub call_some : Grounds → (request : Option Request) (file : Files) → (status : ℕ) × CallFor request file status
call_some by request file = (kept_of request).some by file
