-- Setups and quantities of one item that may fall short of what is on time, and what they cost: lot sizing with backlogging (Zangwill 1966), where what falls short has a price.
use Rattle.std.specs.Prelude.{◌≡◌, ℕ, ◌+◌, ◌-◌, ◌*◌, ◌≤◌, ◌<◌}
use Rattle.lot_sizing.specs.Sums.{sum_to}
use Rattle.lot_sizing.specs.Problem.{EachItem, Problem, item_at, item_count}
use Rattle.lot_sizing.specs.Plan.{EachCell, Plan, IsFeasible, Table}
use Rattle.lot_sizing.specs.Net.{choice}
use Rattle.lot_sizing.specs.Single.{NetPlan}
use Rattle.lot_sizing.specs.Totals.{IsRanking}
use Rattle.late_starts.specs.OnTime.{AreOnTime, AreShortfalls}
use Rattle.late_starts.specs.Charges.{AreCharges, sum_cells}

-- by period: what a setup, a unit and a unit of shortfall cost, and what is on time by its end; and the period from which on nothing may fall short
pub record LateLots : Type 0 where
  pub periods : ℕ
  pub setup : ℕ → ℕ
  pub unit : ℕ → ℕ
  pub share : ℕ → ℕ
  pub need : ℕ → ℕ
  pub settled : ℕ

-- a setup is made or not, nothing is made without one, what is on time has been started but for what falls short, and nothing falls short once it may not
pub record IsLateChoice (a : LateLots) (q : NetPlan) (short : ℕ → ℕ) : Type 0 where
  pub setup : (t : ℕ) → 1 ≤ t → t ≤ a.periods → q.setup t ≤ 1
  pub made : (t : ℕ) → 1 ≤ t → t ≤ a.periods → 0 < q.make t → q.setup t ≡ 1
  pub started : (t : ℕ) → 1 ≤ t → t ≤ a.periods → a.need t ≤ sum_to t q.make + short t
  pub settled : (t : ℕ) → 1 ≤ t → t ≤ a.periods → a.settled ≤ t → short t ≡ 0

-- what they cost
abbrev pub late_price : LateLots → NetPlan → (ℕ → ℕ) → ℕ
late_price a q short = sum_to a.periods (λ t. a.setup t * q.setup t + a.unit t * q.make t + a.share t * short t)

-- no choice costs less
abbrev pub IsLateFloor : LateLots → ℕ → Type 0
IsLateFloor a c = (q : NetPlan) (short : ℕ → ℕ) → IsLateChoice a q short → c ≤ late_price a q short

-- no choice costs less, and where it is below a greatest number some choice costs just this
pub record IsLeastUpTo (a : LateLots) (most c : ℕ) : Type 0 where
  pub floor : IsLateFloor a c
  pub some : c < most → (q : NetPlan) × (short : ℕ → ℕ) × IsLateChoice a q short × (late_price a q short ≡ c)

-- an item of a problem at these prices: lots that arrive in the last period or later may not fall short
abbrev pub late_lots : Problem → (start setup unit share : Table) → ℕ → LateLots
late_lots m start setup unit share i = record {
  periods = m.periods;
  setup = setup i;
  unit = unit i;
  share = share i;
  need = start i;
  settled = m.periods - (item_at m i).lead;
}

-- the setups, quantities and shortfalls of an item in a feasible plan are such a choice
abbrev pub PlansAreLateChoices : Type 0
PlansAreLateChoices =
    (m : Problem) (rank : ℕ → ℕ) (start setup unit share short : Table) → IsRanking m rank → AreOnTime m start
    → (p : Plan) → IsFeasible m p → AreShortfalls m start p.backlog short
    → EachItem m (λ i. IsLateChoice (late_lots m start setup unit share i) (choice p.make p.setup i) (short i))

-- there is always some choice
abbrev pub LateChoicesExist : Type 0
LateChoicesExist = (a : LateLots) → (q : NetPlan) × (short : ℕ → ℕ) × IsLateChoice a q short

-- floors of items, where their shares charge no more than its price on any backlog: every feasible plan pays as much for its setups, quantities and backlogs
abbrev pub LateItemsBound : Type 0
LateItemsBound =
    (m : Problem) (rank floor : ℕ → ℕ) (start setup unit share charge price : Table) → IsRanking m rank → AreOnTime m start
    → AreCharges m start share charge → EachCell m (λ i v. charge i v ≤ price i v)
    → EachItem m (λ i. IsLateFloor (late_lots m start setup unit share i) (floor i))
    → (p : Plan) → IsFeasible m p
    → sum_to (item_count m) floor ≤ sum_cells m (λ i t. setup i t * p.setup i t + unit i t * p.make i t) + sum_cells m (λ i v. price i v * p.backlog i v)

-- the same lots, period by period
pub record AreSameLots (a b : LateLots) : Type 0 where
  pub periods : a.periods ≡ b.periods
  pub settled : a.settled ≡ b.settled
  pub setup : (t : ℕ) → 1 ≤ t → t ≤ a.periods → a.setup t ≡ b.setup t
  pub unit : (t : ℕ) → 1 ≤ t → t ≤ a.periods → a.unit t ≡ b.unit t
  pub share : (t : ℕ) → 1 ≤ t → t ≤ a.periods → a.share t ≡ b.share t
  pub need : (t : ℕ) → 1 ≤ t → t ≤ a.periods → a.need t ≡ b.need t

-- have the same floors
abbrev pub LateFloorsAgree : Type 0
LateFloorsAgree = (a b : LateLots) (c : ℕ) → AreSameLots a b → IsLateFloor a c → IsLateFloor b c
