-- The plan that the grids of a plan hold.
use Rattle.std.specs.Prelude.{ℕ, ◌*◌, ◌^◌}
use Rattle.lot_sizing.specs.declared.limits.TheConstants.{MAX_AMOUNT, MAX_BILL_LINES, MAX_ITEMS, MAX_QUANTITY, MAX_RESOURCES}
use Rattle.lot_sizing.specs.Problem.{Problem}
use Rattle.lot_sizing.specs.Plan as terms
use Rattle.plan_rules.specs.Cells.{table_of, Fits}
use Rattle.plan_rules.specs.declared.plan.Plan.{Plan}

-- the plan that four grids hold
abbrev pub plan_of : Plan → terms.Plan
plan_of p = record { make = table_of p.make; setup = table_of p.setup; stock = table_of p.stock; backlog = table_of p.backlog }

-- each grid has the problem's items and periods
pub record AllFit (m : Problem) (p : Plan) : Type 0 where
  pub make : Fits m p.make
  pub setup : Fits m p.setup
  pub stock : Fits m p.stock
  pub backlog : Fits m p.backlog

-- the most units of an item that can go into others in a period, whatever the grids hold: a grid's numbers are below 2^64
abbrev pub most_used_up : ℕ
most_used_up = MAX_ITEMS * (MAX_BILL_LINES * MAX_QUANTITY * 2 ^ 64)

-- the most time that a resource can be used in a period
abbrev pub most_time : ℕ
most_time = MAX_ITEMS * (2 * (MAX_RESOURCES * MAX_AMOUNT * 2 ^ 64))

-- the most that an item can cost in a period
abbrev pub most_cost_at : ℕ
most_cost_at = 4 * (MAX_AMOUNT * 2 ^ 64)
