-- Laws that hold of every problem.
use Rattle.std.specs.Prelude.{◌≡◌, ℕ, ◌+◌, ◌≤◌, List}
use Rattle.lot_sizing.specs.Sums.{sum_to}
use Rattle.lot_sizing.specs.Problem.{Problem, EachItem, IsUncoupled, item_at, item_count}
use Rattle.lot_sizing.specs.Best.{IsFloor}
use Rattle.lot_sizing.specs.declared.Block.{Block}
use Rattle.lot_sizing.specs.Single.{Single, NetPlan, IsNetPlan, ArePotentials, Cover, period_count, net_demand, net_cost, position_count, potential, blocks_plan, blocks_cost, lot_in}
use Rattle.lot_sizing.specs.Bill.{AreWeights, bill_of}
use Rattle.lot_sizing.specs.Echelon.{IsEchelonBalanced, IsLeadFree, asked_in_echelon}
use Rattle.lot_sizing.specs.Net.{needed_to, HasRoom, ServesItem, IsBestChoice, choice, item_cost, held_left}
use Rattle.lot_sizing.specs.Plan.{Plan, Table, EachCell, IsFeasible, cost}
use Rattle.lot_sizing.specs.Least.{HasChoice, least_backlog, least_plan, least_stock}
use Rattle.lot_sizing.specs.Totals.{AreLargestTotals, IsRanking}

-- a feasible plan makes at most the largest total of each item, where no item is its own component
abbrev pub BoundsTotals : Type 0
BoundsTotals =
    (m : Problem) (rank total : ℕ → ℕ) → 1 ≤ m.periods → IsRanking m rank → AreLargestTotals m total
    → (p : Plan) → IsFeasible m p → (i : ℕ) → 1 ≤ i → i ≤ item_count m → sum_to m.periods (p.make i) ≤ total i

-- where a feasible plan has these quantities and setups, so has the one with the least stocks and backlogs, and it costs no more
abbrev pub KeepsLeast : Type 0
KeepsLeast =
    (m : Problem) (make setup : Table) → 1 ≤ m.periods → (p : Plan) → IsFeasible m p → HasChoice m make setup p
    → IsFeasible m (least_plan m make setup) × (cost m (least_plan m make setup) ≤ cost m p)
    × EachCell m (λ i t. (least_stock m make i t ≤ p.stock i t) × (least_backlog m make i t ≤ p.backlog i t))

-- no net plan costs less than the last potential
abbrev pub LastPotentialIsFloor : Type 0
LastPotentialIsFloor = (s : Single) (g : List ℕ) → ArePotentials s g → (p : NetPlan) → IsNetPlan s p → potential g (position_count s) ≤ net_cost s p

-- blocks that cover all positions give a net plan that serves what is asked for, no more, and costs no more than the blocks
abbrev pub BlocksServe : Type 0
BlocksServe =
    (s : Single) (blocks : List Block) → Cover s blocks
    → IsNetPlan s (blocks_plan s blocks) × (net_cost s (blocks_plan s blocks) ≤ blocks_cost s blocks)
    × (sum_to (period_count s) (lot_in s blocks) ≡ sum_to (period_count s) (net_demand s))

-- in an uncoupled problem: with net plans of least cost for each item by itself, the least stocks and backlogs cost no more than any feasible plan
abbrev pub ItemsAreBestApart : Type 0
ItemsAreBestApart =
    (m : Problem) (make setup : Table) (single : ℕ → Single) → IsUncoupled m → 1 ≤ m.periods
    → EachItem m (λ i. IsBestChoice m i (single i) (choice make setup i)) → IsFloor m (cost m (least_plan m make setup))

-- there, a feasible plan leaves room for the largest end stock of each item
abbrev pub PlansHaveRoom : Type 0
PlansHaveRoom = (m : Problem) (p : Plan) → IsUncoupled m → 1 ≤ m.periods → IsFeasible m p → EachItem m (HasRoom m)

-- and with that room net plans for each item by itself make a feasible plan
abbrev pub RoomIsEnough : Type 0
RoomIsEnough =
    (m : Problem) (make setup : Table) (single : ℕ → Single) → IsUncoupled m → 1 ≤ m.periods
    → EachItem m (λ i. (item_at m i).end_min ≤ (item_at m i).end_max) → EachItem m (λ i. ServesItem m i (single i) (choice make setup i))
    → EachItem m (HasRoom m) → IsFeasible m (least_plan m make setup)

-- there, the least plan of net plans costs what they and what is left of the opening stock cost
abbrev pub CostsApart : Type 0
CostsApart =
    (m : Problem) (make setup : Table) (single : ℕ → Single) → IsUncoupled m → 1 ≤ m.periods
    → EachItem m (λ i. ServesItem m i (single i) (choice make setup i))
    → EachItem m (λ i. item_cost m (least_plan m make setup) i ≡ net_cost (single i) (choice make setup i) + held_left m i)

-- in every feasible plan the echelon of a lead-free item balances, where no item is its own component
abbrev pub EchelonsBalance : Type 0
EchelonsBalance =
    (m : Problem) (weight : ℕ → ℕ → ℕ) (rank : ℕ → ℕ) → AreWeights (bill_of m) weight → IsRanking m rank → (p : Plan) → IsFeasible m p
    → EachCell m (λ i t. IsLeadFree m weight i → IsEchelonBalanced m weight p i t)

-- what must be made of an item for its echelon is at most its largest total
abbrev pub NetIsWithinTotals : Type 0
NetIsWithinTotals =
    (m : Problem) (weight : ℕ → ℕ → ℕ) (rank total : ℕ → ℕ) → AreWeights (bill_of m) weight → IsRanking m rank → AreLargestTotals m total
    → EachItem m (λ i. (item_at m i).end_min ≤ (item_at m i).end_max) → EachItem m (λ i. needed_to (asked_in_echelon m weight i) m.periods ≤ total i)

-- where no item is its own component, each item has one largest total
abbrev pub TotalsAreOne : Type 0
TotalsAreOne =
    (m : Problem) (rank a b : ℕ → ℕ) → IsRanking m rank → AreLargestTotals m a → AreLargestTotals m b → EachItem m (λ i. a i ≡ b i)

-- and one weight in each item
abbrev pub WeightsAreOne : Type 0
WeightsAreOne =
    (m : Problem) (rank : ℕ → ℕ) (a b : ℕ → ℕ → ℕ) → IsRanking m rank → AreWeights (bill_of m) a → AreWeights (bill_of m) b
    → EachItem m (λ i. EachItem m (λ k. a i k ≡ b i k))
