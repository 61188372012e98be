-- What the words of a command line ask for.
use Rattle.std.specs.Prelude.{⊤, ◌≡◌, ◌≢◌, ◌≤◌, ◌+◌, ◌*◌, ℕ, Bool, true, false, not, ◌&&◌, ◌==◌, List, [], ◌∷◌, Option, Some, None, IfSome, if◌then◌else◌, codes, decimal, nat_le}
use Rattle.std.specs.Int.{is_in_range}
use Rattle.std.specs.List.{after_first, before_first, list_any}
use Rattle.std.specs.Str.{bytes_eq}
use Rattle.std.specs.Str.Parse.{digits_value}
use Rattle.clap.specs.Words.{Kinds, Row, fault_of, first_of, subcommand_of}
use Rattle.lot_sizing.specs.declared.limits.TheConstants.{MAX_ITEMS}
use Rattle.instance_reader.specs.declared.versions.TheConstants.{FIRST_VERSION_PERIODS}
use Rattle.command_line.specs.declared.requests.TheConstants.{LARGEST_BUDGET, LARGEST_GAP, LARGEST_SECONDS, NEWEST_CERTIFICATE, OLDEST_CERTIFICATE, USUAL_BUDGET}
use Rattle.command_line.specs.declared.commands.ReportForm.{ReportForm}
use Rattle.command_line.specs.declared.commands.ReportForm.TheVariants.{Summary, Full, Tables}
use Rattle.command_line.specs.Grammar.{planner_app}

-- how a plan is searched
pub record Search : Type 0 where
  -- the most nodes that the certificate's tree may have
  pub budget : ℕ
  -- the plan file to start from, if one is named
  pub start : Option (List ℕ)
  -- the gap between bound and cost at which the search may end, in hundredths of a percent of the cost, if one is given
  pub gap : Option ℕ
  -- the seconds after which it may end, if they are given
  pub seconds : Option ℕ
  -- the newest version that the certificate may have
  pub newest : ℕ

-- with a budget alone
abbrev pub plain_search : ℕ → Search
plain_search budget = record { budget = budget; start = None; gap = None; seconds = None; newest = NEWEST_CERTIFICATE }

pub data Request : Type 0 where
  -- the program's name
  version : Request
  -- to plan a model file, with the names of the model file, the plan file and the certificate file, and how the plan is searched
  planning : List ℕ → List ℕ → List ℕ → Search → Request
  -- to judge a plan file, with the names of the model file and the plan file
  judging : List ℕ → List ℕ → Request
  -- to check a certificate file, with the names of the model file, the plan file and the certificate file
  checking : List ℕ → List ℕ → List ℕ → Request
  -- to judge a plan file and to tell of it in this form, with the names of the model file and the plan file
  reporting : List ℕ → List ℕ → ReportForm → Request
  -- to write a model with this seed, this many items and this many periods into the file of this name
  generating : ℕ → ℕ → ℕ → List ℕ → Request
  -- to plan two models with this seed
  demonstrating : ℕ → Request
  -- to write a model of the first version as one of the newest, with the names of the model file and the new file
  upgrading : List ℕ → List ℕ → Request
  -- to bound the cost of plans of the model in this file
  bounding : List ℕ → Request
  -- to lay the lots of a plan as times on each resource, with the names of the model file, the plan file and the new file
  scheduling : List ℕ → List ℕ → List ℕ → Request
  -- to check such times, with the names of the model file, the plan file and the file of times
  schedule_checking : List ℕ → List ℕ → List ℕ → Request
  -- to say which supply serves which need, with the names of the model file, the plan file and the new file
  pegging : List ℕ → List ℕ → List ℕ → Request
  -- to complete a table of quantities to a plan, with the names of the model file, the table and the new plan file
  completing : List ℕ → List ℕ → List ℕ → Request
  -- to draw a plan, with the names of the model file, the plan file, the new page and, where the page is to say what is proved, the certificate file
  drawing : List ℕ → List ℕ → List ℕ → Option (List ℕ) → Request
  -- to plan on after the first periods of a plan, with the names of the model file and the plan file, how many periods stay as they are, the names of the model file, the plan file and the
  -- certificate file of the later periods, and the most nodes that the certificate's tree may have
  replanning : List ℕ → List ℕ → ℕ → List ℕ → List ℕ → List ℕ → ℕ → Request

-- ---- names and numbers

-- a file's name isn't empty and doesn't begin with `-`
abbrev pub is_file_name : List ℕ → Bool
is_file_name [] = false
is_file_name (b ∷ bs) = not (b == 45)

-- three files' names, no two of them the same
abbrev pub are_file_names : List ℕ → List ℕ → List ℕ → Bool
are_file_names m p c = is_file_name m && (is_file_name p && (is_file_name c && (not (bytes_eq m p) && (not (bytes_eq m c) && not (bytes_eq p c)))))

-- two files' names, which aren't the same
abbrev pub are_two_names : List ℕ → List ℕ → Bool
are_two_names m p = is_file_name m && (is_file_name p && not (bytes_eq m p))

-- four files' names, no two of them the same
abbrev pub are_four_names : List ℕ → List ℕ → List ℕ → List ℕ → Bool
are_four_names m p h c = are_file_names m p h && (are_file_names m p c && are_two_names h c)

-- five files' names, no two of them the same
abbrev pub are_five_names : List ℕ → List ℕ → List ℕ → List ℕ → List ℕ → Bool
are_five_names m p n q c = are_file_names m p n && (are_file_names m q c && (are_file_names p q c && are_file_names n q c))

-- the text of a number from the least to the most: decimal digits, with no sign and no 0 before others
abbrev pub is_number : ℕ → ℕ → List ℕ → Bool
is_number least most text = bytes_eq text (decimal (digits_value 10 text)) && is_in_range least most (digits_value 10 text)

-- the largest seed
abbrev pub largest_seed : ℕ
largest_seed = 18446744073709551615

-- the most periods that are asked to stay
abbrev pub largest_start : ℕ
largest_start = 4294967295

abbrev pub is_start : List ℕ → Bool
is_start = is_number 0 largest_start

abbrev pub is_budget : List ℕ → Bool
is_budget = is_number 1 LARGEST_BUDGET

abbrev pub is_seed : List ℕ → Bool
is_seed = is_number 0 largest_seed

abbrev pub is_seconds : List ℕ → Bool
is_seconds = is_number 1 LARGEST_SECONDS

-- a version that a certificate may be asked to keep to
abbrev pub is_version : List ℕ → Bool
is_version = is_number OLDEST_CERTIFICATE NEWEST_CERTIFICATE

-- ---- percentages with at most two decimals, as `1`, `0.5` and `2.25`

abbrev pub is_point : ℕ → Bool
is_point b = b == 46

abbrev pub is_decimal_digit : ℕ → Bool
is_decimal_digit b = nat_le 48 b && nat_le b 57

-- one digit or two
abbrev pub are_decimals : List ℕ → Bool
are_decimals (a ∷ []) = is_decimal_digit a
are_decimals (a ∷ b ∷ []) = is_decimal_digit a && is_decimal_digit b
are_decimals _ = false

-- the hundredths that they are after a point, and 0 where there are none
abbrev pub decimals_value : List ℕ → ℕ
decimals_value (a ∷ []) = 10 * digits_value 10 (a ∷ [])
decimals_value (a ∷ b ∷ []) = digits_value 10 (a ∷ b ∷ [])
decimals_value _ = 0

-- the hundredths of a percent that a text gives
abbrev pub hundredths : List ℕ → ℕ
hundredths text = 100 * digits_value 10 (before_first is_point text) + decimals_value (after_first is_point text)

-- the text of a percentage: a number up to 100, and where there is a point one digit or two behind it
abbrev pub is_percentage : List ℕ → Bool
is_percentage text = is_number 0 100 (before_first is_point text) && (if list_any is_point text then are_decimals (after_first is_point text) else true)

-- and of one from 0 to 100
abbrev pub is_gap : List ℕ → Bool
is_gap text = is_percentage text && nat_le (hundredths text) LARGEST_GAP

-- ---- names of a file to start from

-- no file to start from, or one that is neither the model file nor the certificate file; it may be the plan file
abbrev pub is_start_name : List ℕ → List ℕ → Option (List ℕ) → Bool
is_start_name m c None = true
is_start_name m c (Some start) = are_file_names m start c

-- ---- what the texts of a command ask for, where each text that it needs is there

abbrev pub request_if : Bool → Request → Option Request
request_if true request = Some request
request_if false request = None

-- the nodes that a text gives, and where there is none the usual ones
abbrev pub budget_from : Option (List ℕ) → Option ℕ
budget_from None = Some USUAL_BUDGET
budget_from (Some n) = if is_budget n then Some (digits_value 10 n) else None

-- the gap that a text gives, if there is one
abbrev pub gap_from : Option (List ℕ) → Option (Option ℕ)
gap_from None = Some None
gap_from (Some g) = if is_gap g then Some (Some (hundredths g)) else None

-- the seconds that a text gives, if there is one
abbrev pub seconds_from : Option (List ℕ) → Option (Option ℕ)
seconds_from None = Some None
seconds_from (Some n) = if is_seconds n then Some (Some (digits_value 10 n)) else None

-- the newest version that a text gives, and where there is none the newest one of all
abbrev pub newest_from : Option (List ℕ) → Option ℕ
newest_from None = Some NEWEST_CERTIFICATE
newest_from (Some n) = if is_version n then Some (digits_value 10 n) else None

-- how a plan is searched, where each number that is given is in order
abbrev pub search_with : Option ℕ → Option (List ℕ) → Option (Option ℕ) → Option (Option ℕ) → Option ℕ → Option Search
search_with None start gap seconds newest = None
search_with (Some budget) start None seconds newest = None
search_with (Some budget) start (Some gap) None newest = None
search_with (Some budget) start (Some gap) (Some seconds) None = None
search_with (Some budget) start (Some gap) (Some seconds) (Some newest) = Some (record { budget = budget; start = start; gap = gap; seconds = seconds; newest = newest })

abbrev pub search_from : Option (List ℕ) → Option (List ℕ) → Option (List ℕ) → Option (List ℕ) → Option (List ℕ) → Option Search
search_from nodes start gap seconds newest = search_with (budget_from nodes) start (gap_from gap) (seconds_from seconds) (newest_from newest)

abbrev pub planned : List ℕ → List ℕ → List ℕ → Option Search → Option Request
planned m p c None = None
planned m p c (Some search) = request_if (is_start_name m c search.start && are_file_names m p c) (planning m p c search)

abbrev pub generated : List ℕ → List ℕ → List ℕ → List ℕ → Option Request
generated n items periods m = request_if (is_seed n && (is_number 1 MAX_ITEMS items && (is_number 1 FIRST_VERSION_PERIODS periods && is_file_name m)))
    (generating (digits_value 10 n) (digits_value 10 items) (digits_value 10 periods) m)

abbrev pub planning_from : Option (List ℕ) → Option (List ℕ) → Option (List ℕ) → Option Search → Option Request
planning_from (Some m) (Some p) (Some c) search = planned m p c search
planning_from _ _ _ _ = None

abbrev pub judging_from : Option (List ℕ) → Option (List ℕ) → Option Request
judging_from (Some m) (Some p) = request_if (are_two_names m p) (judging m p)
judging_from _ _ = None

abbrev pub checking_from : Option (List ℕ) → Option (List ℕ) → Option (List ℕ) → Option Request
checking_from (Some m) (Some p) (Some c) = request_if (are_file_names m p c) (checking m p c)
checking_from _ _ _ = None

-- an option without a text is there where its text is `true`
abbrev pub is_set : Option (List ℕ) → Bool
is_set None = false
is_set (Some text) = bytes_eq text (codes "true")

-- what a report tells, by its two options: the summary where none is there, and nothing where both are
abbrev pub form_from : Option (List ℕ) → Option (List ℕ) → Option ReportForm
form_from full table =
    if is_set full then (if is_set table then None else Some Full)
    else (if is_set table then Some Tables else Some Summary)

abbrev pub reported : List ℕ → List ℕ → Option ReportForm → Option Request
reported m p None = None
reported m p (Some form) = request_if (are_two_names m p) (reporting m p form)

abbrev pub reporting_from : Option (List ℕ) → Option (List ℕ) → Option (List ℕ) → Option (List ℕ) → Option Request
reporting_from (Some m) (Some p) full table = reported m p (form_from full table)
reporting_from _ _ _ _ = None

abbrev pub generating_from : Option (List ℕ) → Option (List ℕ) → Option (List ℕ) → Option (List ℕ) → Option Request
generating_from (Some n) (Some items) (Some periods) (Some m) = generated n items periods m
generating_from _ _ _ _ = None

abbrev pub demonstrating_from : Option (List ℕ) → Option Request
demonstrating_from (Some n) = request_if (is_seed n) (demonstrating (digits_value 10 n))
demonstrating_from _ = None

abbrev pub upgrading_from : Option (List ℕ) → Option (List ℕ) → Option Request
upgrading_from (Some m) (Some n) = request_if (are_two_names m n) (upgrading m n)
upgrading_from _ _ = None

abbrev pub bounding_from : Option (List ℕ) → Option Request
bounding_from (Some m) = request_if (is_file_name m) (bounding m)
bounding_from _ = None

abbrev pub scheduling_from : Option (List ℕ) → Option (List ℕ) → Option (List ℕ) → Option Request
scheduling_from (Some m) (Some p) (Some s) = request_if (are_file_names m p s) (scheduling m p s)
scheduling_from _ _ _ = None

abbrev pub schedule_checking_from : Option (List ℕ) → Option (List ℕ) → Option (List ℕ) → Option Request
schedule_checking_from (Some m) (Some p) (Some s) = request_if (are_file_names m p s) (schedule_checking m p s)
schedule_checking_from _ _ _ = None

abbrev pub pegging_from : Option (List ℕ) → Option (List ℕ) → Option (List ℕ) → Option Request
pegging_from (Some m) (Some p) (Some q) = request_if (are_file_names m p q) (pegging m p q)
pegging_from _ _ _ = None

abbrev pub completing_from : Option (List ℕ) → Option (List ℕ) → Option (List ℕ) → Option Request
completing_from (Some m) (Some p) (Some q) = request_if (are_file_names m p q) (completing m p q)
completing_from _ _ _ = None

abbrev pub drawing_from : Option (List ℕ) → Option (List ℕ) → Option (List ℕ) → Option (List ℕ) → Option Request
drawing_from (Some m) (Some p) (Some h) None = request_if (are_file_names m p h) (drawing m p h None)
drawing_from (Some m) (Some p) (Some h) (Some c) = request_if (are_four_names m p h c) (drawing m p h (Some c))
drawing_from _ _ _ _ = None

abbrev pub replanned : List ℕ → List ℕ → List ℕ → List ℕ → List ℕ → List ℕ → Option ℕ → Option Request
replanned m p f n q c None = None
replanned m p f n q c (Some budget) = request_if (are_five_names m p n q c && is_start f) (replanning m p (digits_value 10 f) n q c budget)

abbrev pub replanning_from : Option (List ℕ) → Option (List ℕ) → Option (List ℕ) → Option (List ℕ) → Option (List ℕ) → Option (List ℕ) → Option (List ℕ) → Option Request
replanning_from (Some m) (Some p) (Some f) (Some n) (Some q) (Some c) nodes = replanned m p f n q c (budget_from nodes)
replanning_from _ _ _ _ _ _ _ = None

-- ---- what the matches ask for

-- what a subcommand of this name asks for, by the texts of its arguments
abbrev pub request_in : List ℕ → List Row → Option Request
request_in name rows =
    if bytes_eq name (codes "plan") then planning_from (first_of (codes "M") rows) (first_of (codes "P") rows) (first_of (codes "C") rows)
    (search_from (first_of (codes "nodes") rows) (first_of (codes "start") rows) (first_of (codes "gap") rows) (first_of (codes "seconds") rows) (first_of (codes "certificate") rows))
    else if bytes_eq name (codes "judge") then judging_from (first_of (codes "M") rows) (first_of (codes "P") rows)
    else if bytes_eq name (codes "check") then checking_from (first_of (codes "M") rows) (first_of (codes "P") rows) (first_of (codes "C") rows)
    else if bytes_eq name (codes "report") then reporting_from (first_of (codes "M") rows) (first_of (codes "P") rows) (first_of (codes "full") rows) (first_of (codes "table") rows)
    else if bytes_eq name (codes "gen") then generating_from (first_of (codes "N") rows) (first_of (codes "ITEMS") rows) (first_of (codes "PERIODS") rows) (first_of (codes "M") rows)
    else if bytes_eq name (codes "demo") then demonstrating_from (first_of (codes "N") rows)
    else if bytes_eq name (codes "upgrade") then upgrading_from (first_of (codes "M") rows) (first_of (codes "M2") rows)
    else if bytes_eq name (codes "bound") then bounding_from (first_of (codes "M") rows)
    else if bytes_eq name (codes "schedule") then scheduling_from (first_of (codes "M") rows) (first_of (codes "P") rows) (first_of (codes "S") rows)
    else if bytes_eq name (codes "schedcheck") then schedule_checking_from (first_of (codes "M") rows) (first_of (codes "P") rows) (first_of (codes "S") rows)
    else if bytes_eq name (codes "peg") then pegging_from (first_of (codes "M") rows) (first_of (codes "P") rows) (first_of (codes "Q") rows)
    else if bytes_eq name (codes "complete") then completing_from (first_of (codes "M") rows) (first_of (codes "P") rows) (first_of (codes "P2") rows)
    else if bytes_eq name (codes "draw") then drawing_from (first_of (codes "M") rows) (first_of (codes "P") rows) (first_of (codes "H") rows) (first_of (codes "proof") rows)
    else if bytes_eq name (codes "replan") then replanning_from (first_of (codes "M") rows) (first_of (codes "P") rows) (first_of (codes "F") rows) (first_of (codes "M2") rows) (first_of (codes "P2") rows)
    (first_of (codes "C") rows) (first_of (codes "nodes") rows)
    else None

-- words with no subcommand are the program's name
abbrev pub request_by_matches : Option (List ℕ × List Row) → Option Request
request_by_matches None = Some version
request_by_matches (Some s) = request_in s.0 s.1

-- words that a step of the parse refuses ask for nothing, calls for help and for the version too
abbrev pub unless_refused : Kinds → Option Request → Option Request
unless_refused [] answer = answer
unless_refused (k ∷ ks) answer = None

-- the command that the matches of the words give
unfoldable pub command_of : List (List ℕ) → Option Request
command_of words = unless_refused (fault_of planner_app words) (request_by_matches (subcommand_of planner_app words))

-- no step of the parse refuses the words
unfoldable pub AreTaken : List (List ℕ) → Type 0
AreTaken words = fault_of planner_app words ≡ []

-- ---- the seconds

-- the seconds that a plan is asked for with, if there are any
abbrev pub seconds_of : Option Request → Option ℕ
seconds_of None = None
seconds_of (Some (planning m p c search)) = search.seconds
seconds_of (Some _) = None

-- ---- the conditions, as facts

-- no two of three names are the same
pub record AreApart (model_file plan_file certificate_file : List ℕ) : Type 0 where
  pub plan : model_file ≢ plan_file
  pub certificate : model_file ≢ certificate_file
  pub written : plan_file ≢ certificate_file

-- the names of a plan are three, no two of them the same; its budget has at least one node; a file to start from is neither the model file nor the certificate file; a gap and seconds are in their limits; and the certificate's version may be one of those that can be asked for
pub record IsPlanned (m p c : List ℕ) (search : Search) : Type 0 where
  pub apart : AreApart m p c
  pub some : 1 ≤ search.budget
  pub limit : search.budget ≤ LARGEST_BUDGET
  pub start : IfSome search.start (λ start. AreApart m start c)
  pub gap : IfSome search.gap (λ gap. gap ≤ LARGEST_GAP)
  pub seconds : IfSome search.seconds (λ seconds. (1 ≤ seconds) × (seconds ≤ LARGEST_SECONDS))
  pub oldest : OLDEST_CERTIFICATE ≤ search.newest
  pub newest : search.newest ≤ NEWEST_CERTIFICATE

-- no two of four names are the same
pub record AreFourApart (m p h c : List ℕ) : Type 0 where
  pub page : AreApart m p h
  pub proof : AreApart m p c
  pub other : h ≢ c

-- no two of five names are the same
pub record AreFiveApart (m p n q c : List ℕ) : Type 0 where
  pub first : AreApart m p n
  pub of_model : AreApart m q c
  pub of_plan : AreApart p q c
  pub of_next : AreApart n q c

-- the names of a plan that goes on are five, no two of them the same, its periods are in their limit, and its budget has at least one node
pub record IsReplanned (m p : List ℕ) (f : ℕ) (n q c : List ℕ) (budget : ℕ) : Type 0 where
  pub apart : AreFiveApart m p n q c
  pub start_limit : f ≤ largest_start
  pub some : 1 ≤ budget
  pub limit : budget ≤ LARGEST_BUDGET

pub record IsGenerated (seed items periods : ℕ) : Type 0 where
  pub seed_limit : seed ≤ largest_seed
  pub some_items : 1 ≤ items
  pub items_limit : items ≤ MAX_ITEMS
  pub some_periods : 1 ≤ periods
  pub periods_limit : periods ≤ FIRST_VERSION_PERIODS

-- what a command meets: names that are apart, numbers within their limits
abbrev pub IsAllowed : Request → Type 0
IsAllowed (planning m p c search) = IsPlanned m p c search
IsAllowed (judging m p) = m ≢ p
IsAllowed (checking m p c) = AreApart m p c
IsAllowed (reporting m p form) = m ≢ p
IsAllowed (generating seed items periods m) = IsGenerated seed items periods
IsAllowed (demonstrating seed) = seed ≤ largest_seed
IsAllowed (upgrading m n) = m ≢ n
IsAllowed (scheduling m p s) = AreApart m p s
IsAllowed (schedule_checking m p s) = AreApart m p s
IsAllowed (pegging m p q) = AreApart m p q
IsAllowed (completing m p q) = AreApart m p q
IsAllowed (drawing m p h None) = AreApart m p h
IsAllowed (drawing m p h (Some c)) = AreFourApart m p h c
IsAllowed (replanning m p f n q c budget) = IsReplanned m p f n q c budget
IsAllowed _ = ⊤
