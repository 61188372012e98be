-- Numbers and lists of numbers as JSON (RFC 8259).
use Rattle.std.specs.Prelude.{ℕ, List, [], ◌++◌, codes, decimal, if◌then◌else◌, nat_le, nat_lt}
use Rattle.lot_sizing.specs.Problem.{Problem}
use Rattle.lot_sizing.specs.Plan.{Plan}
use Rattle.lot_sizing.specs.Texts.{join_to}
use Rattle.plan_report.specs.Figures.{key_of, number_of}
use Rattle.plan_report.specs.declared.figures.Series.{Series}
use Rattle.plan_report.specs.declared.numbers.TheConstants.{LARGEST_EXACT}

-- a text in quotes; no name and no number has a byte that would be escaped
unfoldable pub in_quotes : List ℕ → List ℕ
in_quotes text = codes "\"" ++ (text ++ codes "\"")

-- a number where it is at most 2^53, which every reader of JSON keeps, and else a text of its decimal digits
unfoldable pub quantity : ℕ → List ℕ
quantity n = if nat_le n LARGEST_EXACT then decimal n else in_quotes (decimal n)

-- a comma before each but the first
unfoldable pub comma_before : ℕ → List ℕ
comma_before k = if nat_lt 1 k then codes "," else []

-- an entry of a list
unfoldable pub list_entry : Problem → Plan → Series → ℕ → ℕ → List ℕ
list_entry m p s r t = comma_before t ++ quantity (number_of m p s r t)

-- the entries of all periods
unfoldable pub list_entries : Problem → Plan → Series → ℕ → List ℕ
list_entries m p s r = join_to m.periods (list_entry m p s r)

-- a list with an entry for each period, after its key
unfoldable pub named_list : Problem → Plan → Series → ℕ → List ℕ
named_list m p s r = codes "\"" ++ (key_of s ++ (codes "\":[" ++ (list_entries m p s r ++ codes "]")))
