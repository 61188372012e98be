-- The plain lists of words that are commands, one form for each of the first eight.
use Rattle.std.specs.Prelude.{ℕ, ◌&&◌, List, [], ◌∷◌, Option, Some, None, if◌then◌else◌, codes}
use Rattle.std.specs.Str.{bytes_eq}
use Rattle.std.specs.Str.Parse.{digits_value}
use Rattle.lot_sizing.specs.declared.limits.TheConstants.{MAX_ITEMS}
use Rattle.instance_reader.specs.declared.versions.TheConstants.{FIRST_VERSION_PERIODS}
use Rattle.command_line.specs.declared.commands.ReportForm.TheVariants.{Summary}
use Rattle.command_line.specs.declared.requests.TheConstants.{USUAL_BUDGET}
use Rattle.command_line.specs.Words.{Request, version, plain_search, planning, judging, checking, upgrading, reporting, generating, demonstrating, bounding, are_file_names, are_two_names, is_budget, is_file_name, is_number, is_seed}

-- no words, or `bound` and a name, or `demo` and a seed, or `judge`, `upgrade` or `report` and two names, or `plan` or `check` and three, or `gen` with a seed, numbers of items and periods and a name, or
-- `plan` with a number of nodes after the names
abbrev pub plain_command_of : List (List ℕ) → Option Request
plain_command_of [] = Some version
plain_command_of (word ∷ m ∷ []) = if bytes_eq word (codes "bound") && is_file_name m then Some (bounding m)
    else (if bytes_eq word (codes "demo") && is_seed m then Some (demonstrating (digits_value 10 m)) else None)
plain_command_of (word ∷ m ∷ p ∷ []) =
    if bytes_eq word (codes "judge") && are_two_names m p then Some (judging m p)
    else (if bytes_eq word (codes "upgrade") && are_two_names m p then Some (upgrading m p)
    else (if bytes_eq word (codes "report") && are_two_names m p then Some (reporting m p Summary) else None))
plain_command_of (word ∷ m ∷ p ∷ c ∷ []) =
    if bytes_eq word (codes "plan") && are_file_names m p c then Some (planning m p c (plain_search USUAL_BUDGET))
    else (if bytes_eq word (codes "check") && are_file_names m p c then Some (checking m p c) else None)
plain_command_of (word ∷ n ∷ items ∷ periods ∷ m ∷ []) =
    if bytes_eq word (codes "gen") && (is_seed n && (is_number 1 MAX_ITEMS items && (is_number 1 FIRST_VERSION_PERIODS periods && is_file_name m)))
    then Some (generating (digits_value 10 n) (digits_value 10 items) (digits_value 10 periods) m) else None
plain_command_of (word ∷ m ∷ p ∷ c ∷ option ∷ number ∷ []) =
    if bytes_eq word (codes "plan") && (are_file_names m p c && (bytes_eq option (codes "--nodes") && is_budget number)) then Some (planning m p c (plain_search (digits_value 10 number))) else None
plain_command_of _ = None
