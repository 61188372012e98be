-- The number with which the process ends.
use Rattle.std.specs.Prelude.{ℕ}
use Rattle.lotplan.specs.declared.status.TheConstants.{DONE, NO_PLAN, UNDECIDED, FAULTY, NO_COMMAND, REFUSED, MISSING, UNREAD, UNWRITTEN, UNPRINTED, NO_MEMORY, TOO_LONG, NO_REST}
use Rattle.lotplan.specs.declared.status.Status.{Status}
use Rattle.lotplan.specs.declared.status.Status.TheVariants as status

abbrev pub code_of : Status → ℕ
code_of status.Done = DONE
code_of status.NoPlan = NO_PLAN
code_of status.Undecided = UNDECIDED
code_of status.Faulty = FAULTY
code_of status.NoCommand = NO_COMMAND
code_of status.Refused = REFUSED
code_of status.Missing = MISSING
code_of status.Unread = UNREAD
code_of status.Unwritten = UNWRITTEN
code_of status.Unprinted = UNPRINTED
code_of status.NoMemory = NO_MEMORY
code_of status.TooLong = TOO_LONG
code_of status.NoRest = NO_REST
