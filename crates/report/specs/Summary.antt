-- The summary of a plan: its cost with the parts of each item, and the use of each resource, as a JSON object (RFC 8259).
use Rattle.std.specs.Prelude.{◌≡◌, ℕ, zero, suc, ◌+◌, ◌*◌, List, [], ◌∷◌, ◌++◌, codes, decimal}
use Rattle.serde_json.specs.Data.{Data, string, array, object, number, unsigned, member, no_members}
use Rattle.serde_json.specs.View.{items_of}
use Rattle.serde_json.specs.Written.{compact_text}
use Rattle.lot_sizing.specs.Sums.{sum_to}
use Rattle.lot_sizing.specs.Problem.{Problem, item_at, item_count, resource_at, resource_count, unit_cost, setup_cost, hold_cost, backlog_cost}
use Rattle.lot_sizing.specs.Plan.{Plan, cost, time_used}

-- f 1, .., f n
abbrev pub list_to : {A : Type 0} → ℕ → (ℕ → A) → List A
list_to zero f = []
list_to (suc n) f = list_to n f ++ (f (suc n) ∷ [])

-- what the units of an item cost that are made
abbrev pub unit_part : Problem → Plan → ℕ → ℕ
unit_part m p i = sum_to m.periods (λ t. unit_cost m i t * p.make i t)

-- what its setups cost
abbrev pub setup_part : Problem → Plan → ℕ → ℕ
setup_part m p i = sum_to m.periods (λ t. setup_cost m i t * p.setup i t)

-- what its stocks at the ends of periods cost
abbrev pub hold_part : Problem → Plan → ℕ → ℕ
hold_part m p i = sum_to m.periods (λ t. hold_cost m i t * p.stock i t)

-- what its backlogs at the ends of periods cost
abbrev pub backlog_part : Problem → Plan → ℕ → ℕ
backlog_part m p i = sum_to m.periods (λ t. backlog_cost m i t * p.backlog i t)

-- how many units of it are made
abbrev pub made_total : Problem → Plan → ℕ → ℕ
made_total m p i = sum_to m.periods (p.make i)

-- the number of its setups
abbrev pub setup_count : Problem → Plan → ℕ → ℕ
setup_count m p i = sum_to m.periods (p.setup i)

-- an amount as a text
abbrev pub amount : ℕ → Data
amount n = string (decimal n)

abbrev pub item_data : Problem → Plan → ℕ → Data
item_data m p i =
    object (member (codes "backlog") (amount (backlog_part m p i))
    (member (codes "hold") (amount (hold_part m p i))
    (member (codes "made") (amount (made_total m p i))
    (member (codes "name") (string (item_at m i).name)
    (member (codes "setup") (amount (setup_part m p i))
    (member (codes "setups") (amount (setup_count m p i))
    (member (codes "unit") (amount (unit_part m p i)) no_members)))))))

abbrev pub resource_data : Problem → Plan → ℕ → Data
resource_data m p k =
    object (member (codes "name") (string (resource_at m k).name)
    (member (codes "used") (array (items_of (list_to m.periods (λ t. amount (time_used m p k t))))) no_members))

-- the summary as a value, its keys in order
abbrev pub summary_data : Problem → Plan → Data
summary_data m p =
    object (member (codes "cost") (amount (cost m p))
    (member (codes "items") (array (items_of (list_to (item_count m) (item_data m p))))
    (member (codes "periods") (number (unsigned m.periods))
    (member (codes "resources") (array (items_of (list_to (resource_count m) (resource_data m p)))) no_members))))

-- its compact text and a line feed
abbrev pub json_line : Problem → Plan → List ℕ
json_line m p = compact_text (summary_data m p) ++ codes "\n"

-- ---- the bytes

-- a text in quotes; no name and no number has a byte that would be escaped
abbrev pub in_quotes : List ℕ → List ℕ
in_quotes text = codes "\"" ++ (text ++ codes "\"")

-- an amount, a text of decimal digits
abbrev pub amount_text : ℕ → List ℕ
amount_text n = in_quotes (decimal n)

-- each text after a comma
abbrev pub after_commas : List (List ℕ) → List ℕ
after_commas [] = []
after_commas (x ∷ xs) = codes "," ++ (x ++ after_commas xs)

-- the texts with commas between
abbrev pub with_commas : List (List ℕ) → List ℕ
with_commas [] = []
with_commas (x ∷ xs) = x ++ after_commas xs

-- a list of values
abbrev pub in_brackets : List (List ℕ) → List ℕ
in_brackets texts = codes "[" ++ (with_commas texts ++ codes "]")

abbrev pub item_text : Problem → Plan → ℕ → List ℕ
item_text m p i =
    codes "{\"backlog\":" ++ (amount_text (backlog_part m p i)
    ++ (codes ",\"hold\":" ++ (amount_text (hold_part m p i)
    ++ (codes ",\"made\":" ++ (amount_text (made_total m p i)
    ++ (codes ",\"name\":" ++ (in_quotes (item_at m i).name
    ++ (codes ",\"setup\":" ++ (amount_text (setup_part m p i)
    ++ (codes ",\"setups\":" ++ (amount_text (setup_count m p i)
    ++ (codes ",\"unit\":" ++ (amount_text (unit_part m p i) ++ codes "}")))))))))))))

abbrev pub resource_text : Problem → Plan → ℕ → List ℕ
resource_text m p k =
    codes "{\"name\":" ++ (in_quotes (resource_at m k).name
    ++ (codes ",\"used\":" ++ (in_brackets (list_to m.periods (λ t. amount_text (time_used m p k t))) ++ codes "}")))

-- the summary as one line
abbrev pub summary_text : Problem → Plan → List ℕ
summary_text m p =
    (codes "{\"cost\":" ++ (amount_text (cost m p)
    ++ (codes ",\"items\":" ++ (in_brackets (list_to (item_count m) (item_text m p))
    ++ (codes ",\"periods\":" ++ (decimal m.periods
    ++ (codes ",\"resources\":" ++ (in_brackets (list_to (resource_count m) (resource_text m p)) ++ codes "}"))))))))
    ++ codes "\n"

-- ---- the law

-- what an item costs in all
abbrev pub parts_of : Problem → Plan → ℕ → ℕ
parts_of m p i = unit_part m p i + setup_part m p i + hold_part m p i + backlog_part m p i

-- the parts of all items add up to what the plan costs
abbrev pub PartsAddUp : Type 0
PartsAddUp = (m : Problem) (p : Plan) → sum_to (item_count m) (parts_of m p) ≡ cost m p
