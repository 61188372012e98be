-- Laws of replanning. No item has a lead time.
use Rattle.std.specs.Prelude.{◌≡◌, ℕ, pos, ◌-ℤ◌, ◌⊎◌, ◌+◌, ◌≤◌, ◌<◌, ◌↔◌}
use Rattle.lot_sizing.specs.Problem.{EachItem, IsUncoupled, IsWithinLimits, Problem}
use Rattle.lot_sizing.specs.Plan.{IsFeasible, Plan, Table, cost}
use Rattle.lot_sizing.specs.Least.{least_backlog, least_stock}
use Rattle.lot_sizing.specs.Best.{IsBest, IsFloor, IsImpossible}
use Rattle.frozen_start.specs.Starts.{Agrees, HasNoLeads, IsBestAfter, IsFloorAfter, NoneAgreesWith, StartStands, left_or_owed, spent}
use Rattle.frozen_start.specs.Rests.{IsRestOf, cut, join, rest_of}

-- a start that stands and a feasible plan of the rest make a feasible plan, which agrees with the start and costs what both cost
abbrev pub JoinsAreFeasible : Type 0
JoinsAreFeasible =
    (m : Problem) (p : Plan) (first : ℕ) (rest : Problem) (q : Plan) → HasNoLeads m → IsRestOf m p first rest → StartStands m p first → IsFeasible rest q
    → IsFeasible m (join m p first q) × Agrees m p (join m p first q) first × (cost m (join m p first q) ≡ spent m p first + cost rest q)

-- where a feasible plan agrees with the start, its later periods are a feasible plan of the rest, and cost at most what is not spent
abbrev pub AgreeingPlansCut : Type 0
AgreeingPlansCut =
    (m : Problem) (p : Plan) (first : ℕ) (rest : Problem) (q : Plan) → HasNoLeads m → IsRestOf m p first rest → IsFeasible m q → Agrees m p q first
    → StartStands m p first × IsFeasible rest (cut m q first) × (spent m p first + cost rest (cut m q first) ≤ cost m q)

-- a feasible plan agrees only with a start that stands
abbrev pub StartsAreNeeded : Type 0
StartsAreNeeded = (m : Problem) (p : Plan) (first : ℕ) → HasNoLeads m → first < m.periods → (StartStands m p first → ⊥) → NoneAgreesWith m p first

-- where no plan of the rest is feasible, none agrees with the start
abbrev pub NoneAgrees : Type 0
NoneAgrees = (m : Problem) (p : Plan) (first : ℕ) (rest : Problem) → HasNoLeads m → IsRestOf m p first rest → IsImpossible rest → NoneAgreesWith m p first

-- where each plan of the rest costs so much, each plan that agrees with the start costs that and what is spent
abbrev pub FloorsGoOn : Type 0
FloorsGoOn =
    (m : Problem) (p : Plan) (first : ℕ) (rest : Problem) (bound : ℕ) → HasNoLeads m → IsRestOf m p first rest → IsFloor rest bound
    → IsFloorAfter m p first (spent m p first + bound)

-- behind a start that stands, a best plan of the rest makes a best one among those that agree with the start
abbrev pub BestGoOn : Type 0
BestGoOn =
    (m : Problem) (p : Plan) (first : ℕ) (rest : Problem) (q : Plan) → HasNoLeads m → IsRestOf m p first rest → StartStands m p first → IsBest rest q
    → IsBestAfter m p first (join m p first q) × (cost m (join m p first q) ≡ spent m p first + cost rest q)

-- there is one rest
abbrev pub ThereIsOneRest : Type 0
ThereIsOneRest = (m : Problem) (p : Plan) (first : ℕ) (rest : Problem) → first < m.periods → IsRestOf m p first rest ↔ rest ≡ rest_of m p first

-- what is left is the least stock and what is owed the least backlog, of which one is 0
abbrev pub LeastsAreSigned : Type 0
LeastsAreSigned =
    (m : Problem) (make : Table) → HasNoLeads m → EachItem m (λ i. (t : ℕ)
    → (left_or_owed m make i t ≡ pos (least_stock m make i t) -ℤ pos (least_backlog m make i t)) × ((least_stock m make i t ≡ 0) ⊎ (least_backlog m make i t ≡ 0)))

-- the rest is uncoupled where the problem is
abbrev pub RestsStayUncoupled : Type 0
RestsStayUncoupled = (m : Problem) (p : Plan) (first : ℕ) (rest : Problem) → IsRestOf m p first rest → IsUncoupled m ↔ IsUncoupled rest

-- where no period is kept, the rest is the problem
abbrev pub RestOfAllIsItself : Type 0
RestOfAllIsItself = (m : Problem) (p : Plan) → IsWithinLimits m → IsRestOf m p 0 m
