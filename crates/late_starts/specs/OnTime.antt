-- What would have to be started of an item if nothing were late, and how much less of it the backlogs of a plan allow.
use Rattle.std.specs.Prelude.{◌≡◌, ℕ, ◌+◌, ◌-◌, ◌≤◌, IsNone, min, if◌then◌else◌, ◌==◌}
use Rattle.lot_sizing.specs.Sums.{sum_to}
use Rattle.lot_sizing.specs.Problem.{EachItem, Problem, item_at}
use Rattle.lot_sizing.specs.Plan.{EachCell, Plan, IsFeasible, Table}
use Rattle.lot_sizing.specs.Totals.{AreLargestTotals, IsRanking}
use Rattle.must_start.specs.MustStart.{AreMustStart, greatest_to, may_be_late, must_arrive, taken_by_others}

-- the period by whose end all lots have arrived that are started by the end of this one, and the last period where they arrive later
abbrev pub arrival : Problem → ℕ → ℕ → ℕ
arrival m i t = min (t + (item_at m i).lead) m.periods

-- if nothing is late, by the end of a period has been started what must arrive by the end of the period in which its lots arrive. Nothing is started before the first one
pub record AreOnTime (m : Problem) (start : Table) : Type 0 where
  pub none : EachItem m (λ i. start i 0 ≡ 0)
  pub each : EachCell m (λ i t. start i t ≡ must_arrive m start i (arrival m i t))

-- what is owed of an item at the end of a period, and nothing where it can't be late
abbrev pub owed : Problem → Table → ℕ → ℕ → ℕ
owed m backlog i t = if may_be_late m i t then backlog i t else 0

-- how much less may have been started with these backlogs: what is owed of the item when its lots arrive, and what other items take of it less of which less has been started by then. Nothing, where nothing would have to be started
pub record AreShortfalls (m : Problem) (start backlog short : Table) : Type 0 where
  pub each : EachCell m (λ i t. short i t ≡ (if start i t == 0 then 0 else owed m backlog i (arrival m i t) + taken_by_others m short i (arrival m i t)))

-- a plan has started of each item all that is on time, but for what its backlogs allow
abbrev pub HasStartedBut : Problem → Table → Table → Plan → Type 0
HasStartedBut m start short p = EachCell m (λ i t. start i t ≤ sum_to t (p.make i) + short i t)

-- every feasible plan has, where no item is its own component
abbrev pub LateStartsHold : Type 0
LateStartsHold =
    (m : Problem) (rank : ℕ → ℕ) (start short : Table) → IsRanking m rank → AreOnTime m start → (p : Plan) → IsFeasible m p
    → AreShortfalls m start p.backlog short → HasStartedBut m start short p

-- lots that arrive in the last period or later may not fall short
abbrev pub ShortfallsEnd : Type 0
ShortfallsEnd =
    (m : Problem) (rank : ℕ → ℕ) (start backlog short : Table) → IsRanking m rank → AreShortfalls m start backlog short
    → EachCell m (λ i t. m.periods ≤ t + (item_at m i).lead → short i t ≡ 0)

-- to any backlogs there are shortfalls
abbrev pub ShortfallsExist : Type 0
ShortfallsExist =
    (m : Problem) (rank : ℕ → ℕ) (start backlog : Table) → IsRanking m rank → (short : Table) × AreShortfalls m start backlog short

-- and they are one number of each item and period
abbrev pub ShortfallsAreOne : Type 0
ShortfallsAreOne =
    (m : Problem) (rank : ℕ → ℕ) (start backlog a b : Table) → IsRanking m rank
    → AreShortfalls m start backlog a → AreShortfalls m start backlog b → EachCell m (λ i t. a i t ≡ b i t)

-- what is on time is one number of each item and period
abbrev pub OnTimeIsOne : Type 0
OnTimeIsOne =
    (m : Problem) (rank : ℕ → ℕ) (a b : Table) → IsRanking m rank → AreOnTime m a → AreOnTime m b → EachCell m (λ i t. a i t ≡ b i t)

-- and where no item is its own component, there is such a table
abbrev pub OnTimeExists : Type 0
OnTimeExists = (m : Problem) (rank : ℕ → ℕ) → IsRanking m rank → (start : Table) × AreOnTime m start

-- it doesn't fall
abbrev pub OnTimeRises : Type 0
OnTimeRises =
    (m : Problem) (rank : ℕ → ℕ) (start : Table) → IsRanking m rank → AreOnTime m start → EachCell m (λ i t. start i (t - 1) ≤ start i t)

-- so it is the greatest of what must arrive by any period up to that in which its lots arrive
abbrev pub OnTimeIsGreatest : Type 0
OnTimeIsGreatest =
    (m : Problem) (rank : ℕ → ℕ) (start : Table) → IsRanking m rank → AreOnTime m start
    → EachCell m (λ i t. start i t ≡ greatest_to (arrival m i t) (must_arrive m start i))

-- it is no less than what must have been started of items that may be late
abbrev pub MustStartIsWithinOnTime : Type 0
MustStartIsWithinOnTime =
    (m : Problem) (rank : ℕ → ℕ) (must start : Table) → IsRanking m rank → AreMustStart m must → AreOnTime m start
    → EachCell m (λ i t. must i t ≤ start i t)

-- and the same, where nothing may be late
abbrev pub OnTimeIsMustStart : Type 0
OnTimeIsMustStart =
    (m : Problem) (rank : ℕ → ℕ) (must start : Table) → IsRanking m rank → AreMustStart m must → AreOnTime m start
    → EachItem m (λ i. IsNone (item_at m i).backlog_cost) → EachCell m (λ i t. start i t ≡ must i t)

-- it is no more than the largest total
abbrev pub OnTimeIsWithinTotals : Type 0
OnTimeIsWithinTotals =
    (m : Problem) (rank total : ℕ → ℕ) (start : Table) → IsRanking m rank → AreLargestTotals m total → AreOnTime m start
    → EachItem m (λ i. (item_at m i).end_min ≤ (item_at m i).end_max) → EachCell m (λ i t. start i t ≤ total i)
