-- What the sum of rows and groups bounds, and that there is one.
use Rattle.std.specs.Prelude.{◌≡◌, ◌≢◌, ℕ, ◌≤◌, ℤ, pos, ◌*ℤ◌, ◌≤ℤ◌, List, map}
use Rattle.lot_sizing.specs.Problem.{Problem}
use Rattle.lot_sizing.specs.Plan.{Plan, IsFeasible, cost}
use Rattle.lot_sizing.specs.Totals.{AreLargestTotals, IsRanking}
use Rattle.lin_rows.specs.Columns.{value_in}
use Rattle.lin_rows.specs.Combining.{AllHold, AreOfProblem, AreSigned}
use Rattle.lin_rows.specs.Rows.{LinRow, whole_point}
use Rattle.item_groups.specs.declared.group.Group.{Group}
use Rattle.reduced_groups.specs.Groups.{AreKnown, GroupShape, Known}
use Rattle.reduced_groups.specs.Floors.{shape_of}
use Rattle.reduced_leaf.specs.declared.sums.ReducedSum.{ReducedSum}
use Rattle.reduced_leaf.specs.declared.sums.ReducedFault.{ReducedFault}
use Rattle.reduced_leaf.specs.declared.sums.ReducedFault.TheVariants.{Memory}
use Rattle.reduced_leaf.specs.Leaf.{IsAnswerOf, IsReducedSum, LacksOneChoice}
use Rattle.reduced_leaf.specs.Faults.{IsReducedFaultOf}

-- of a problem in which no item is its own component it is known what must have been started, what is on time, and the largest lots
abbrev pub KnownExists : Type 0
KnownExists = (m : Problem) (rank total : ℕ → ℕ) → IsRanking m rank → AreLargestTotals m total → (known : Known) × AreKnown m total known

-- the sum is at most den times the cost of a feasible plan at which the rows hold
abbrev pub ReducedSumBounds : Type 0
ReducedSumBounds =
    (m : Problem) (rank total : ℕ → ℕ) (rows : List LinRow) (times : List ℤ) (den : ℕ) (shapes : List GroupShape) (sum : ℤ)
    → 1 ≤ m.periods → IsRanking m rank → AreLargestTotals m total → AreSigned rows times → AreOfProblem m rows
    → IsReducedSum m total rows times den shapes sum
    → (p : Plan) → IsFeasible m p → AllHold (whole_point (value_in p)) rows → sum ≤ℤ (pos den *ℤ pos (cost m p))

-- where one of the groups has no choice, no plan is feasible
abbrev pub ReducedSumRefutes : Type 0
ReducedSumRefutes =
    (m : Problem) (rank total : ℕ → ℕ) (rows : List LinRow) (times : List ℤ) (den : ℕ) (shapes : List GroupShape)
    → 1 ≤ m.periods → IsRanking m rank → AreLargestTotals m total
    → LacksOneChoice m total rows times den shapes
    → (p : Plan) → IsFeasible m p → ⊥

-- of the same rows and groups, by any largest totals of the same problem
abbrev pub OfSameLeaf : ((m : Problem) (total more : ℕ → ℕ) (rows : List LinRow) (times : List ℤ) (den : ℕ) (shapes : List GroupShape) → Type 0) → Type 0
OfSameLeaf P =
    (m : Problem) (rank total more : ℕ → ℕ) (rows : List LinRow) (times : List ℤ) (den : ℕ) (shapes : List GroupShape)
    → IsRanking m rank → AreLargestTotals m total → AreLargestTotals m more → P m total more rows times den shapes

-- two sums are the same
abbrev pub SumsAreOne : Type 0
SumsAreOne =
    OfSameLeaf (λ m total more rows times den shapes. (a b : ℤ)
    → IsReducedSum m total rows times den shapes a → IsReducedSum m more rows times den shapes b → a ≡ b)

-- where there is a sum, each group has a choice
abbrev pub ChoicesAreOne : Type 0
ChoicesAreOne =
    OfSameLeaf (λ m total more rows times den shapes. (sum : ℤ)
    → IsReducedSum m total rows times den shapes sum → LacksOneChoice m more rows times den shapes → ⊥)

-- where there is a fault, nothing else is said
abbrev pub FaultsExclude : Type 0
FaultsExclude =
    (m : Problem) (rank total : ℕ → ℕ) (rows : List LinRow) (times : List ℤ) (den : ℕ) (groups : List Group) (fault : ReducedFault) (answer : ReducedSum)
    → IsRanking m rank → AreLargestTotals m total
    → fault ≢ Memory → IsReducedFaultOf m total rows times den groups fault
    → IsAnswerOf m total rows times den (map shape_of groups) answer → ⊥

-- they have one fault, but where memory ran out
abbrev pub FaultsAreOne : Type 0
FaultsAreOne =
    (m : Problem) (rank total : ℕ → ℕ) (rows : List LinRow) (times : List ℤ) (den : ℕ) (groups : List Group) (a b : ReducedFault)
    → IsRanking m rank → AreLargestTotals m total → a ≢ Memory → b ≢ Memory
    → IsReducedFaultOf m total rows times den groups a → IsReducedFaultOf m total rows times den groups b → a ≡ b

-- the sum by some largest totals is that by all
abbrev pub SumByBoth : Type 0
SumByBoth =
    OfSameLeaf (λ m total more rows times den shapes. (sum : ℤ)
    → IsReducedSum m total rows times den shapes sum → IsReducedSum m more rows times den shapes sum)

-- and so is a group without a choice
abbrev pub LacksByBoth : Type 0
LacksByBoth =
    OfSameLeaf (λ m total more rows times den shapes.
    LacksOneChoice m total rows times den shapes → LacksOneChoice m more rows times den shapes)
