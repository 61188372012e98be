-- The least stocks and backlogs that go with given quantities.
use Rattle.std.specs.Prelude.{◌≡◌, ℕ, ◌+◌, ◌-◌}
use Rattle.lot_sizing.specs.Sums.{sum_to}
use Rattle.lot_sizing.specs.Problem.{Problem, item_at, demand}
use Rattle.lot_sizing.specs.Plan.{Plan, Table, EachCell, arriving, used_up}

-- what there has been of an item up to a period: its opening stock and the lots that have arrived
abbrev pub supply : Problem → Table → ℕ → ℕ → ℕ
supply m make i t = (item_at m i).opening + sum_to t (arriving m make i)

-- what was asked for up to a period
abbrev pub outflow : Problem → Table → ℕ → ℕ → ℕ
outflow m make i t = sum_to t (λ u. demand m i u + used_up m make i u)

abbrev pub least_stock : Problem → Table → ℕ → ℕ → ℕ
least_stock m make i t = supply m make i t - outflow m make i t

abbrev pub least_backlog : Problem → Table → ℕ → ℕ → ℕ
least_backlog m make i t = outflow m make i t - supply m make i t

-- the plan with these quantities and setups and the least stocks and backlogs
abbrev pub least_plan : Problem → Table → Table → Plan
least_plan m make setup = record { make = make; setup = setup; stock = least_stock m make; backlog = least_backlog m make }

-- the same number for each item and period
abbrev pub SameCells : Problem → Table → Table → Type 0
SameCells m a b = EachCell m (λ i t. a i t ≡ b i t)

-- the plan has these quantities and setups
pub record HasChoice (m : Problem) (quantities setups : Table) (p : Plan) : Type 0 where
  pub make : SameCells m p.make quantities
  pub setup : SameCells m p.setup setups
