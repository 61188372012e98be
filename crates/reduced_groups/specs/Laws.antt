-- What groups bound, and that each has one number.
use Rattle.std.specs.Prelude.{◌≡◌, ℕ, ◌≤◌, ℤ, pos, ◌+ℤ◌, ◌*ℤ◌, ◌≤ℤ◌, List}
use Rattle.std.specs.List.{All}
use Rattle.lot_sizing.specs.Problem.{EachItem, Problem}
use Rattle.lot_sizing.specs.Plan.{EachCell, Plan, IsFeasible, cost}
use Rattle.lot_sizing.specs.Totals.{AreLargestTotals, IsRanking}
use Rattle.lin_rows.specs.declared.column.Column.{Column}
use Rattle.lin_rows.specs.declared.column.Column.TheVariants.{X, Y, R}
use Rattle.lin_rows.specs.Columns.{IsColumn, value_in}
use Rattle.lin_rows.specs.Combining.{AllHold, AreOfProblem, AreSigned, right_sum}
use Rattle.lin_rows.specs.Rows.{LinRow, whole_point}
use Rattle.reduced_groups.specs.Groups.{AreKnown, GroupShape, Known}
use Rattle.reduced_groups.specs.Numbers.{AreNumbersOf, SomeLacksChoice, sum_of}
use Rattle.reduced_groups.specs.Apart.{AreApart, IsGroupOf}
use Rattle.reduced_groups.specs.Rows.{AreReduced, paid}
use Rattle.reduced_groups.specs.Floors.{IsWithinWork}

-- of each problem in which no item is its own component, with what is known of it
abbrev pub OfKnown : ((m : Problem) (known : Known) → Type 0) → Type 0
OfKnown P =
    (m : Problem) (rank total : ℕ → ℕ) (known : Known) → 1 ≤ m.periods → IsRanking m rank → AreLargestTotals m total → AreKnown m total known → P m known

-- at any prices, what all columns of a feasible plan cost is at least what the numbers of groups add to that lie apart
abbrev pub GroupsBound : Type 0
GroupsBound =
    OfKnown (λ m known. (price : Column → ℕ) (shapes : List GroupShape) (amounts : List ℕ)
    → AreApart m known price shapes → AreNumbersOf m known price shapes amounts
    → (p : Plan) → IsFeasible m p → sum_of amounts ≤ paid m price p)

-- where one of the groups has no choice, no plan is feasible
abbrev pub GroupsRefute : Type 0
GroupsRefute =
    OfKnown (λ m known. (price : Column → ℕ) (shapes : List GroupShape)
    → All (IsGroupOf m) shapes → SomeLacksChoice m known price shapes
    → (p : Plan) → IsFeasible m p → ⊥)

-- where no reduced cost is below 0, and the rows hold at a feasible plan, den times its cost is at least the sum of the right sides and all its columns at their reduced costs
abbrev pub ReducedCostsBound : Type 0
ReducedCostsBound =
    (m : Problem) (rows : List LinRow) (times : List ℤ) (den : ℕ) (price : Column → ℕ)
    → AreSigned rows times → AreOfProblem m rows → AreReduced m rows times den price
    → (p : Plan) → IsFeasible m p → AllHold (whole_point (value_in p)) rows
    → (right_sum rows times +ℤ pos (paid m price p)) ≤ℤ (pos den *ℤ pos (cost m p))

-- and at least that sum and the numbers of groups that lie apart
abbrev pub RowsAndGroupsBound : Type 0
RowsAndGroupsBound =
    OfKnown (λ m known. (rows : List LinRow) (times : List ℤ) (den : ℕ) (price : Column → ℕ) (shapes : List GroupShape) (amounts : List ℕ)
    → AreSigned rows times → AreOfProblem m rows → AreReduced m rows times den price
    → AreApart m known price shapes → AreNumbersOf m known price shapes amounts
    → (p : Plan) → IsFeasible m p → AllHold (whole_point (value_in p)) rows
    → (right_sum rows times +ℤ pos (sum_of amounts)) ≤ℤ (pos den *ℤ pos (cost m p)))

-- groups have one list of numbers
abbrev pub NumbersAreOne : Type 0
NumbersAreOne =
    (m : Problem) (known : Known) (price : Column → ℕ) (shapes : List GroupShape) (a b : List ℕ)
    → AreNumbersOf m known price shapes a → AreNumbersOf m known price shapes b → a ≡ b

-- and none where one of them has no choice
abbrev pub NumbersAreChoices : Type 0
NumbersAreChoices =
    (m : Problem) (known : Known) (price : Column → ℕ) (shapes : List GroupShape) (amounts : List ℕ)
    → AreNumbersOf m known price shapes amounts → SomeLacksChoice m known price shapes → ⊥

-- starts and lots that are the same at each item and period
pub record AreAlike (m : Problem) (a b : Known) : Type 0 where
  pub start : EachItem m (λ i. (t : ℕ) → t ≤ m.periods → a.start i t ≡ b.start i t)
  pub on_time : EachItem m (λ i. (t : ℕ) → t ≤ m.periods → a.on_time i t ≡ b.on_time i t)
  pub lot : EachCell m (λ i t. a.lot i t ≡ b.lot i t)

-- two ways to know a problem in which no item is its own component are alike
abbrev pub KnownAreAlike : Type 0
KnownAreAlike =
    (m : Problem) (rank total more : ℕ → ℕ) (a b : Known) → IsRanking m rank
    → AreLargestTotals m total → AreLargestTotals m more → AreKnown m total a → AreKnown m more b → AreAlike m a b

-- prices that are the same at quantities and setups
abbrev pub AreSamePrices : Problem → (Column → ℕ) → (Column → ℕ) → Type 0
AreSamePrices m price other = EachCell m (λ i t. (price (X i t) ≡ other (X i t)) × (price (Y i t) ≡ other (Y i t)))

-- groups that lie apart by one of two ways that are alike do by the other, where the prices of backlogs are the same
abbrev pub ApartByBoth : Type 0
ApartByBoth =
    (m : Problem) (a b : Known) (price other : Column → ℕ) (shapes : List GroupShape)
    → AreAlike m a b → ((j t : ℕ) → IsColumn m (R j t) → price (R j t) ≡ other (R j t))
    → AreApart m a price shapes → AreApart m b other shapes

-- and have the same numbers, where the prices of quantities and setups are
abbrev pub NumbersByBoth : Type 0
NumbersByBoth =
    (m : Problem) (a b : Known) (price other : Column → ℕ) (shapes : List GroupShape) (amounts : List ℕ)
    → AreAlike m a b → AreSamePrices m price other → All (IsGroupOf m) shapes
    → AreNumbersOf m a price shapes amounts → AreNumbersOf m b other shapes amounts

-- and one of them has no choice by either
abbrev pub ChoicesByBoth : Type 0
ChoicesByBoth =
    (m : Problem) (a b : Known) (price other : Column → ℕ) (shapes : List GroupShape)
    → AreAlike m a b → All (IsGroupOf m) shapes
    → SomeLacksChoice m a price shapes → SomeLacksChoice m b other shapes

-- and the work of finding the number of a group stays within the limits by both
abbrev pub WorkByBoth : Type 0
WorkByBoth =
    (m : Problem) (a b : Known) (price other : Column → ℕ) (s : GroupShape)
    → AreAlike m a b → AreSamePrices m price other → IsGroupOf m s
    → IsWithinWork m a.start a.on_time price s → IsWithinWork m b.start b.on_time other s
