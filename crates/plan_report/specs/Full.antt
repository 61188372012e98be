-- All of a plan as one line of JSON, its keys in the order of the alphabet.
use Rattle.std.specs.Prelude.{ℕ, List, ◌++◌, codes, decimal}
use Rattle.lot_sizing.specs.Problem.{Problem, item_at, item_count, resource_at, resource_count}
use Rattle.lot_sizing.specs.Plan.{Plan, cost}
use Rattle.lot_sizing.specs.Texts.{join_to}
use Rattle.plan_report.specs.Numbers.{comma_before, in_quotes, named_list, quantity}
use Rattle.plan_report.specs.Parts.{item_cost, part_of, part_total}
use Rattle.plan_report.specs.declared.figures.Series.TheVariants.{Made, Setup, Stock, Backlog, Capacity, Used, Free}
use Rattle.plan_report.specs.declared.parts.Part.TheVariants.{Setups, Making, Holding, Owing}

-- a cost and its four parts, in money
unfoldable pub costs_text : ℕ → ℕ → ℕ → ℕ → ℕ → List ℕ
costs_text total backlog holding making setups =
    codes "\"cost\":" ++ (quantity total ++ (codes ",\"costs\":{\"backlog\":" ++ (quantity backlog ++ (codes ",\"holding\":" ++ (quantity holding
    ++ (codes ",\"making\":" ++ (quantity making ++ (codes ",\"setups\":" ++ (quantity setups ++ codes "}")))))))))

-- those of an item
unfoldable pub item_costs : Problem → Plan → ℕ → List ℕ
item_costs m p i = costs_text (item_cost m p i) (part_of m p Owing i) (part_of m p Holding i) (part_of m p Making i) (part_of m p Setups i)

-- those of the plan
unfoldable pub plan_costs : Problem → Plan → List ℕ
plan_costs m p = costs_text (cost m p) (part_total m p Owing) (part_total m p Holding) (part_total m p Making) (part_total m p Setups)

-- a name, between other members
unfoldable pub name_member : List ℕ → List ℕ
name_member name = codes ",\"name\":" ++ (in_quotes name ++ codes ",")

-- an item: its backlogs, its costs, what is made of it, its name, its setups and its stocks
unfoldable pub item_object : Problem → Plan → ℕ → List ℕ
item_object m p i =
    codes "{" ++ (named_list m p Backlog i ++ (codes "," ++ (item_costs m p i ++ (codes "," ++ (named_list m p Made i
    ++ (name_member (item_at m i).name ++ (named_list m p Setup i ++ (codes "," ++ (named_list m p Stock i ++ codes "}")))))))))

-- a resource: its time, what is free of it, its name, and what is used
unfoldable pub resource_object : Problem → Plan → ℕ → List ℕ
resource_object m p k =
    codes "{" ++ (named_list m p Capacity k ++ (codes "," ++ (named_list m p Free k
    ++ (name_member (resource_at m k).name ++ (named_list m p Used k ++ codes "}")))))

unfoldable pub item_entry : Problem → Plan → ℕ → List ℕ
item_entry m p i = comma_before i ++ item_object m p i

unfoldable pub resource_entry : Problem → Plan → ℕ → List ℕ
resource_entry m p k = comma_before k ++ resource_object m p k

-- all items, and all resources
unfoldable pub item_entries : Problem → Plan → List ℕ
item_entries m p = join_to (item_count m) (item_entry m p)

unfoldable pub resource_entries : Problem → Plan → List ℕ
resource_entries m p = join_to (resource_count m) (resource_entry m p)

-- the line: the plan's costs, the items, the number of periods, and the resources
unfoldable pub full_text : Problem → Plan → List ℕ
full_text m p =
    codes "{" ++ (plan_costs m p ++ (codes ",\"items\":[" ++ (item_entries m p ++ (codes "],\"periods\":" ++ (decimal m.periods
    ++ (codes ",\"resources\":[" ++ (resource_entries m p ++ codes "]}\n")))))))
