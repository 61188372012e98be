-- What remains to be made of an item by itself once its opening stock is used up.
use Rattle.std.specs.Prelude.{◌≡◌, ℕ, ◌+◌, ◌-◌, ◌*◌, ◌≤◌, if◌then◌else◌, ◌==◌}
use Rattle.lot_sizing.specs.Sums.{sum_to}
use Rattle.lot_sizing.specs.Problem.{Problem, item_at, item_count, demand, hold_cost}
use Rattle.lot_sizing.specs.Plan.{Plan, Table, cost_at}
use Rattle.lot_sizing.specs.Single.{Single, NetPlan, IsNetPlan, period_count, net_demand, net_cost}

-- demands by period, the opening stock, and the stock required in the end
pub record Asked : Type 0 where
  pub periods : ℕ
  pub demand : ℕ → ℕ
  pub opening : ℕ
  pub end_min : ℕ

-- what is asked for up to a period, with the required end stock in the last one
abbrev pub asked_to : Asked → ℕ → ℕ
asked_to a t = sum_to t a.demand + (if t == a.periods then a.end_min else 0)

-- what must have been made up to a period, since the opening stock serves first
abbrev pub needed_to : Asked → ℕ → ℕ
needed_to a t = asked_to a t - a.opening

abbrev pub net_in : Asked → ℕ → ℕ
net_in a t = needed_to a t - needed_to a (t - 1)

-- what is left of the opening stock at the end of a period, with the required end stock in the last one
abbrev pub left_after : Asked → ℕ → ℕ
left_after a t = (a.opening - asked_to a t) + (if t == a.periods then a.end_min else 0)

-- what is asked of an item that goes into no other
abbrev pub asked_of : Problem → ℕ → Asked
asked_of m i = record { periods = m.periods; demand = demand m i; opening = (item_at m i).opening; end_min = (item_at m i).end_min }

-- the item by itself
pub record IsSingleOf (m : Problem) (i : ℕ) (s : Single) : Type 0 where
  pub periods : period_count s ≡ m.periods
  pub net : (t : ℕ) → 1 ≤ t → t ≤ m.periods → net_demand s t ≡ net_in (asked_of m i) t
  pub setup : s.setup ≡ (item_at m i).setup_cost
  pub unit : s.unit ≡ (item_at m i).unit_cost
  pub hold : s.hold ≡ (item_at m i).hold_cost
  pub back : s.back ≡ (item_at m i).backlog_cost

-- the cost of holding what is left, which no plan avoids
abbrev pub held_left : Problem → ℕ → ℕ
held_left m i = sum_to m.periods (λ t. hold_cost m i t * left_after (asked_of m i) t)

-- what an item costs in all
abbrev pub item_cost : Problem → Plan → ℕ → ℕ
item_cost m p i = sum_to m.periods (cost_at m p i)

-- what is left of the opening stock once all demand is served isn't more than the end allows
abbrev pub HasRoom : Problem → ℕ → Type 0
HasRoom m i = (item_at m i).opening ≤ sum_to m.periods (demand m i) + (item_at m i).end_max

-- the quantities and setups of an item
abbrev pub choice : Table → Table → ℕ → NetPlan
choice make setup i = record { make = make i; setup = setup i }

-- a net plan of the item by itself that makes no more than is asked for
pub record ServesItem (m : Problem) (i : ℕ) (s : Single) (q : NetPlan) : Type 0 where
  pub single : IsSingleOf m i s
  pub plan : IsNetPlan s q
  pub even : sum_to (period_count s) q.make ≡ sum_to (period_count s) (net_demand s)

-- none of them costs less
pub record IsBestChoice (m : Problem) (i : ℕ) (s : Single) (q : NetPlan) : Type 0 where
  pub serves : ServesItem m i s q
  pub least : (p : NetPlan) → IsNetPlan s p → net_cost s q ≤ net_cost s p
