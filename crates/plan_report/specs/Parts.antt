-- What a plan costs, by the four kinds of costs.
use Rattle.std.specs.Prelude.{ℕ, ◌*◌}
use Rattle.lot_sizing.specs.Sums.{sum_to}
use Rattle.lot_sizing.specs.Problem.{Problem, item_count, unit_cost, setup_cost, hold_cost, backlog_cost}
use Rattle.lot_sizing.specs.Plan.{Plan, cost_at}
use Rattle.plan_report.specs.declared.parts.Part.{Part}
use Rattle.plan_report.specs.declared.parts.Part.TheVariants.{Setups, Making, Holding, Owing}

-- what setups, the units made, the stock at the end or the backlog at the end of an item cost in a period
unfoldable pub part_at : Problem → Plan → Part → ℕ → ℕ → ℕ
part_at m p Setups i t = setup_cost m i t * p.setup i t
part_at m p Making i t = unit_cost m i t * p.make i t
part_at m p Holding i t = hold_cost m i t * p.stock i t
part_at m p Owing i t = backlog_cost m i t * p.backlog i t

-- over all periods
unfoldable pub part_of : Problem → Plan → Part → ℕ → ℕ
part_of m p part i = sum_to m.periods (part_at m p part i)

-- over all items
unfoldable pub part_total : Problem → Plan → Part → ℕ
part_total m p part = sum_to (item_count m) (part_of m p part)

-- what an item costs
unfoldable pub item_cost : Problem → Plan → ℕ → ℕ
item_cost m p i = sum_to m.periods (cost_at m p i)
