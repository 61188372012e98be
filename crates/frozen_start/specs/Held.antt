-- The start that two grids hold, and what its sums can be.
use Rattle.std.specs.Prelude.{◌≡◌, ℕ, ◌*◌, ◌+◌, ◌≤◌, ◌^◌, IsNone}
use Rattle.lot_sizing.specs.declared.limits.TheConstants.{MAX_AMOUNT, MAX_PERIODS}
use Rattle.lot_sizing.specs.Problem.{Problem, item_at}
use Rattle.lot_sizing.specs.Plan.{IsLot, IsMadeWithSetup, IsSetup, Plan, Table}
use Rattle.lot_sizing.specs.Least.{least_backlog, outflow, supply}
use Rattle.plan_rules.specs.Cells.{Cells, table_of}
use Rattle.plan_rules.specs.Held.{most_used_up}
use Rattle.frozen_start.specs.declared.flows.Flows.{Flows}

-- stocks and backlogs play no part in a start
abbrev pub start_of : Cells → Cells → Plan
start_of make setup = record { make = table_of make; setup = table_of setup; stock = λ i t. 0; backlog = λ i t. 0 }

-- what there has been of an item up to a period and what was asked of it, whatever the grids hold
pub record AreFlows (m : Problem) (make : Table) (i t : ℕ) (flows : Flows) : Type 0 where
  pub supply : flows.supply ≡ supply m make i t
  pub outflow : flows.outflow ≡ outflow m make i t
  pub small_supply : flows.supply ≤ (t + 1) * 2 ^ 64
  pub small_outflow : flows.outflow ≤ t * (MAX_AMOUNT + most_used_up)

-- an item in a period of a start that stands
pub record CellStands (m : Problem) (p : Plan) (i t : ℕ) : Type 0 where
  pub setup : IsSetup p i t
  pub made : IsMadeWithSetup p i t
  pub lot : IsLot m p i t
  pub in_time : IsNone (item_at m i).backlog_cost → least_backlog m p.make i t ≡ 0

-- the most that an item can cost in a period of a start
abbrev pub most_start_cost : ℕ
most_start_cost = MAX_AMOUNT * ((MAX_PERIODS + 3) * 2 ^ 64) + MAX_AMOUNT * (MAX_PERIODS * MAX_AMOUNT)
