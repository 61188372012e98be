-- What is told of a plan by period: numbers of an item, or of a resource.
use Rattle.std.specs.Prelude.{ℕ, ◌-◌, ◌*◌, ◌/◌, List, codes, max}
use Rattle.lot_sizing.specs.Problem.{Problem, capacity, item_at, item_count, resource_at, resource_count}
use Rattle.lot_sizing.specs.Plan.{Plan, time_used}
use Rattle.plan_report.specs.declared.figures.Series.{Series}
use Rattle.plan_report.specs.declared.figures.Series.TheVariants.{Made, Setup, Stock, Backlog, Capacity, Used, Free, Load}

-- how many hundredths of the whole a part is, rounded down
unfoldable pub percent : ℕ → ℕ → ℕ
percent part whole = part * 100 / max whole 1

-- the number of an item, or of a resource, in a period: units made, setups, units in stock and owed at the end, the time that there is, that is used, and that is free, and
-- the share of the time that is used, in percent
unfoldable pub number_of : Problem → Plan → Series → ℕ → ℕ → ℕ
number_of m p Made i t = p.make i t
number_of m p Setup i t = p.setup i t
number_of m p Stock i t = p.stock i t
number_of m p Backlog i t = p.backlog i t
number_of m p Capacity k t = capacity m k t
number_of m p Used k t = time_used m p k t
number_of m p Free k t = capacity m k t - time_used m p k t
number_of m p Load k t = percent (time_used m p k t) (capacity m k t)

-- how many items, or resources, have one
unfoldable pub row_count : Problem → Series → ℕ
row_count m Made = item_count m
row_count m Setup = item_count m
row_count m Stock = item_count m
row_count m Backlog = item_count m
row_count m Capacity = resource_count m
row_count m Used = resource_count m
row_count m Free = resource_count m
row_count m Load = resource_count m

-- the name of the item, or of the resource
unfoldable pub row_name : Problem → Series → ℕ → List ℕ
row_name m Made i = (item_at m i).name
row_name m Setup i = (item_at m i).name
row_name m Stock i = (item_at m i).name
row_name m Backlog i = (item_at m i).name
row_name m Capacity k = (resource_at m k).name
row_name m Used k = (resource_at m k).name
row_name m Free k = (resource_at m k).name
row_name m Load k = (resource_at m k).name

-- what it is called in JSON
unfoldable pub key_of : Series → List ℕ
key_of Made = codes "made"
key_of Setup = codes "setup"
key_of Stock = codes "stock"
key_of Backlog = codes "backlog"
key_of Capacity = codes "capacity"
key_of Used = codes "used"
key_of Free = codes "free"
key_of Load = codes "load"

-- what its table is called
unfoldable pub title_of : Series → List ℕ
title_of Made = codes "Made"
title_of Setup = codes "Setup"
title_of Stock = codes "Stock"
title_of Backlog = codes "Backlog"
title_of Capacity = codes "Time"
title_of Used = codes "Used"
title_of Free = codes "Free"
title_of Load = codes "Load %"
