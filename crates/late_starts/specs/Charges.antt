-- What shares of shortfalls charge on the backlogs of a plan.
use Rattle.std.specs.Prelude.{◌≡◌, ℕ, ◌+◌, ◌*◌, ◌≤◌, if◌then◌else◌, ◌==◌}
use Rattle.lot_sizing.specs.Sums.{sum_to}
use Rattle.lot_sizing.specs.Problem.{Problem, item_count, per_unit}
use Rattle.lot_sizing.specs.Plan.{EachCell, Plan, IsFeasible, Table}
use Rattle.lot_sizing.specs.Totals.{IsRanking}
use Rattle.must_start.specs.MustStart.{may_be_late}
use Rattle.late_starts.specs.OnTime.{AreOnTime, AreShortfalls, arrival}

-- the sum over all items and periods
abbrev pub sum_cells : Problem → Table → ℕ
sum_cells m f = sum_to (item_count m) (λ i. sum_to m.periods (f i))

-- the loads of an item that count for a period: those of all periods whose lots arrive in it, where anything would have to be started
abbrev pub arriving_load : Problem → (start load : Table) → ℕ → ℕ → ℕ
arriving_load m start load i v = sum_to m.periods (λ t. if arrival m i t == v then (if start i t == 0 then 0 else load i t) else 0)

-- the load of an item and a period is its share, and the loads of its components, for each unit that it takes of them, of the periods whose lots arrive then
pub record AreLoads (m : Problem) (start share load : Table) : Type 0 where
  pub each : EachCell m (λ j v. load j v ≡ share j v + sum_to (item_count m) (λ i. per_unit m i j * arriving_load m start load i v))

-- the loads of the periods whose lots arrive in a period are charged on the backlog at its end, and nothing where there can be none
abbrev pub charge_of : Problem → (start load : Table) → ℕ → ℕ → ℕ
charge_of m start load i v = if may_be_late m i v then arriving_load m start load i v else 0

-- what shares charge on the backlog of each item and period
pub record AreCharges (m : Problem) (start share charge : Table) : Type 0 where
  pub load : Table
  pub loads : AreLoads m start share load
  pub each : EachCell m (λ i v. charge i v ≡ charge_of m start load i v)

-- the shares of the shortfalls cost as much as the charges of the backlogs
abbrev pub ChargesCover : Type 0
ChargesCover =
    (m : Problem) (start backlog short share charge : Table) → AreShortfalls m start backlog short → AreCharges m start share charge
    → sum_cells m (λ i t. share i t * short i t) ≡ sum_cells m (λ i v. charge i v * backlog i v)

-- where no charge is above the price of its backlog, they are paid for by the backlogs
abbrev pub SharesArePaid : Type 0
SharesArePaid =
    (m : Problem) (start backlog short share charge price : Table) → AreShortfalls m start backlog short → AreCharges m start share charge
    → EachCell m (λ i v. charge i v ≤ price i v)
    → sum_cells m (λ i t. share i t * short i t) ≤ sum_cells m (λ i v. price i v * backlog i v)

-- a row of quantities and backlogs that holds in every feasible plan: the shares of what has been started, and the charges of what is owed, are no less than the shares of what is on time
abbrev pub LateRowsHold : Type 0
LateRowsHold =
    (m : Problem) (rank : ℕ → ℕ) (start share charge : Table) → IsRanking m rank → AreOnTime m start → AreCharges m start share charge
    → (p : Plan) → IsFeasible m p
    → sum_cells m (λ i t. share i t * start i t) ≤ sum_cells m (λ i t. share i t * sum_to t (p.make i)) + sum_cells m (λ i v. charge i v * p.backlog i v)

-- the charges are the same whichever of two tables that agree says what is on time
abbrev pub ChargesAgree : Type 0
ChargesAgree =
    (m : Problem) (a b share charge : Table) → EachCell m (λ i t. a i t ≡ b i t) → AreCharges m a share charge → AreCharges m b share charge

-- where no share is more than 0, nothing is charged
abbrev pub NoShareIsCharged : Type 0
NoShareIsCharged =
    (m : Problem) (rank : ℕ → ℕ) (start share charge : Table) → IsRanking m rank → EachCell m (λ i t. share i t ≡ 0) → AreCharges m start share charge
    → EachCell m (λ i v. charge i v ≡ 0)

-- to any shares there are charges
abbrev pub ChargesExist : Type 0
ChargesExist = (m : Problem) (rank : ℕ → ℕ) (start share : Table) → IsRanking m rank → (charge : Table) × AreCharges m start share charge

-- and they are one number of each item and period
abbrev pub ChargesAreOne : Type 0
ChargesAreOne =
    (m : Problem) (rank : ℕ → ℕ) (start share a b : Table) → IsRanking m rank → AreCharges m start share a → AreCharges m start share b
    → EachCell m (λ i v. a i v ≡ b i v)
