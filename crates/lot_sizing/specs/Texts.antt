-- The texts that the program writes: plans and printed lines.
use Rattle.std.specs.Prelude.{ℕ, zero, suc, List, [], ◌++◌, codes, decimal}
use Rattle.lot_sizing.specs.Problem.{Problem, item_at, item_count}
use Rattle.lot_sizing.specs.Plan.{Plan}

-- g 1 ++ .. ++ g n
abbrev pub join_to : ℕ → (ℕ → List ℕ) → List ℕ
join_to zero g = []
join_to (suc n) g = join_to n g ++ g (suc n)

-- the first record of a plan file
abbrev pub plan_header : List ℕ
plan_header = codes "item,period,make,setup,stock,backlog\n"

-- the record of an item and a period
abbrev pub plan_record : Problem → Plan → ℕ → ℕ → List ℕ
plan_record m p i t =
    (item_at m i).name ++ (codes "," ++ (decimal t ++ (codes "," ++ (decimal (p.make i t) ++ (codes "," ++ (decimal (p.setup i t) ++ (codes "," ++ (decimal (p.stock i t) ++ (codes "," ++ (decimal (p.backlog i t) ++ codes "\n"))))))))))

-- the records of an item
abbrev pub item_records : Problem → Plan → ℕ → List ℕ
item_records m p i = join_to m.periods (plan_record m p i)

-- a plan file: the header, and a record for each item and each of its periods in order (CSV as in RFC 4180, with line feeds)
abbrev pub plan_text : Problem → Plan → List ℕ
plan_text m p = plan_header ++ join_to (item_count m) (item_records m p)

-- the line of an optimal plan
abbrev pub optimal_line : ℕ → List ℕ
optimal_line cost = codes "optimal " ++ (decimal cost ++ codes "\n")
