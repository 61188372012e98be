-- Laws of the command line.
use Rattle.std.specs.Prelude.{◌≡◌, ℕ, List, Some}
use Rattle.command_line.specs.Words.{Request, IsAllowed, command_of}
use Rattle.command_line.specs.Plain.{plain_command_of}

-- a plain list of words that is a command is the same one by the matches
abbrev pub PlainWordsKeepTheirMeaning : Type 0
PlainWordsKeepTheirMeaning = (words : List (List ℕ)) (request : Request) → plain_command_of words ≡ Some request → command_of words ≡ Some request

-- each command has names that are apart and numbers within their limits
abbrev pub CommandsAreAllowed : Type 0
CommandsAreAllowed = (words : List (List ℕ)) (request : Request) → command_of words ≡ Some request → IsAllowed request
