-- What must have been started of an item by the end of a period, in every feasible plan: the net requirement of an item, offset by its lead time (Orlicky, Material Requirements Planning, 1975).
use Rattle.std.specs.Prelude.{◌≡◌, ℕ, zero, suc, ◌+◌, ◌-◌, ◌*◌, ◌≤◌, ◌<◌, IsNone, min, max, Bool, false, ◌&&◌, ◌==◌, nat_lt, is_some, if◌then◌else◌}
use Rattle.lot_sizing.specs.Sums.{sum_to}
use Rattle.lot_sizing.specs.Problem.{EachItem, Problem, item_at, item_count, per_unit}
use Rattle.lot_sizing.specs.Bill.{AreWeights, bill_of}
use Rattle.lot_sizing.specs.Echelon.{IsLeadFree, asked_in_echelon}
use Rattle.lot_sizing.specs.Net.{asked_of, asked_to, needed_to}
use Rattle.lot_sizing.specs.Plan.{EachCell, Plan, IsFeasible, Table}
use Rattle.lot_sizing.specs.Totals.{AreLargestTotals, IsRanking}

-- the greatest of 0 and f 1, .., f n
abbrev pub greatest_to : ℕ → (ℕ → ℕ) → ℕ
greatest_to zero f = 0
greatest_to (suc n) f = max (greatest_to n f) (f (suc n))

-- a backlog may stand at the end of a period: the item has a price for it, and the period isn't the last
abbrev pub may_be_late : Problem → ℕ → ℕ → Bool
may_be_late m i t = nat_lt t m.periods && is_some (item_at m i).backlog_cost

-- what other items take of an item, of which so much must have been started
abbrev pub taken_by_others : Problem → Table → ℕ → ℕ → ℕ
taken_by_others m start i t = sum_to (item_count m) (λ j. per_unit m i j * start j t)

-- how much must have arrived of an item by the end of a period: its demand so far, the required end stock in the last period, and what other items take of it; less the opening stock, and at least 0
abbrev pub must_arrive : Problem → Table → ℕ → ℕ → ℕ
must_arrive m start i t = (asked_to (asked_of m i) t + taken_by_others m start i t) - (item_at m i).opening

-- the same, and nothing where it may be late
abbrev pub must_arrive_in_time : Problem → Table → ℕ → ℕ → ℕ
must_arrive_in_time m start i t = if may_be_late m i t then 0 else must_arrive m start i t

-- a lot arrives the lead time after its start. So by the end of a period must have been started what must have arrived by any period up to the lead time after it; no lot arrives after the last period. Nothing is started before the first one
pub record AreMustStart (m : Problem) (start : Table) : Type 0 where
  pub none : EachItem m (λ i. start i 0 ≡ 0)
  pub each : EachCell m (λ i t. start i t ≡ greatest_to (min (t + (item_at m i).lead) m.periods) (must_arrive_in_time m start i))

-- a plan has started as much by the end of each period, of each item
abbrev pub HasStarted : Problem → Table → Plan → Type 0
HasStarted m start p = (i t : ℕ) → 1 ≤ i → i ≤ item_count m → t ≤ m.periods → start i t ≤ sum_to t (p.make i)

-- every feasible plan has
abbrev pub AllHaveStarted : Problem → Table → Type 0
AllHaveStarted m start = (p : Plan) → IsFeasible m p → HasStarted m start p

-- so it is where no item is its own component
abbrev pub MustStartHolds : Type 0
MustStartHolds =
    (m : Problem) (rank : ℕ → ℕ) (start : Table) → IsRanking m rank → AreMustStart m start → AllHaveStarted m start

-- there it is one number of each item and period
abbrev pub MustStartIsOne : Type 0
MustStartIsOne =
    (m : Problem) (rank : ℕ → ℕ) (a b : Table) → IsRanking m rank → AreMustStart m a → AreMustStart m b → EachCell m (λ i t. a i t ≡ b i t)

-- and it doesn't fall
abbrev pub MustStartRises : Type 0
MustStartRises =
    (m : Problem) (start : Table) → AreMustStart m start → EachCell m (λ i t. start i (t - 1) ≤ start i t)

-- neither the item nor one that it goes into may be late
abbrev pub IsNeverLate : Problem → (ℕ → ℕ → ℕ) → ℕ → Type 0
IsNeverLate m weight i = (j : ℕ) → 1 ≤ j → j ≤ item_count m → 0 < weight i j → IsNone (item_at m j).backlog_cost

-- there, and without lead times, what must be made for the echelon is no more than what must have been started
abbrev pub NetIsWithinStart : Type 0
NetIsWithinStart =
    (m : Problem) (weight : ℕ → ℕ → ℕ) (rank : ℕ → ℕ) (start : Table)
    → AreWeights (bill_of m) weight → IsRanking m rank → AreMustStart m start
    → EachCell m (λ i t. IsLeadFree m weight i → IsNeverLate m weight i → needed_to (asked_in_echelon m weight i) t ≤ start i t)

-- what must have been started is no more than the largest total
abbrev pub StartIsWithinTotals : Type 0
StartIsWithinTotals =
    (m : Problem) (rank total : ℕ → ℕ) (start : Table) → IsRanking m rank → AreLargestTotals m total → AreMustStart m start
    → EachItem m (λ i. (item_at m i).end_min ≤ (item_at m i).end_max) → EachCell m (λ i t. start i t ≤ total i)

-- what must have been started, but of item j what a plan has started
abbrev pub with_made : Table → Plan → ℕ → Table
with_made start p j l t = if l == j then sum_to t (p.make j) else start l t

-- a level of a chain: in every feasible plan an item has started what its own demand, what has been started of item j, and what must have been started of all others take of it
abbrev pub LevelsHold : Type 0
LevelsHold =
    (m : Problem) (rank : ℕ → ℕ) (start : Table) → IsRanking m rank → AreMustStart m start → (p : Plan) → IsFeasible m p → (j : ℕ)
    → EachCell m (λ i t. may_be_late m i t ≡ false → must_arrive m (with_made start p j) i t ≤ sum_to (t - (item_at m i).lead) (p.make i))
