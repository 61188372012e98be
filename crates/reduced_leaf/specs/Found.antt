-- What is found of reduced costs and groups.
use Rattle.std.specs.Prelude.{◌≡◌, ℕ, ◌+◌, ◌-◌, ◌≤◌, ◌<◌, ◌^◌, ◌⊎◌, IsSome, ℤ, pos, ◌+ℤ◌, ◌-ℤ◌, ◌*ℤ◌, ◌≤ℤ◌, ◌<ℤ◌, unsigned_abs, List, length, Result, Ok, Err, ⊤}
use Rattle.lot_sizing.specs.Problem.{Problem, entry, item_at, item_count}
use Rattle.lot_sizing.specs.Plan.{Table}
use Rattle.lin_rows.specs.declared.column.Column.{Column}
use Rattle.lin_rows.specs.declared.column.Column.TheVariants.{X, Y, R}
use Rattle.lin_rows.specs.Columns.{column_cost}
use Rattle.lin_rows.specs.Sums.{Summed, total_of}
use Rattle.must_start.specs.Rows.{row_in}
use Rattle.late_starts.specs.Charges.{AreCharges}
use Rattle.chain_dp.specs.Numbers.{IsCapped}
use Rattle.reduced_groups.specs.declared.floors.Floor.{Floor}
use Rattle.reduced_groups.specs.declared.floors.Floor.TheVariants.{Least, NoChoice}
use Rattle.reduced_groups.specs.declared.floors.FloorFault.{FloorFault}
use Rattle.reduced_groups.specs.declared.floors.FloorFault.TheVariants as floor
use Rattle.reduced_groups.specs.Groups.{GroupShape, Known}
use Rattle.reduced_groups.specs.Numbers.{AreNumbersOf, SomeLacksChoice, sum_of}
use Rattle.reduced_groups.specs.Apart.{AreCharged, items_in, share_in, share_of, times_of}
use Rattle.reduced_groups.specs.Levels.{HasSeries}
use Rattle.reduced_groups.specs.Floors.{WhateverIsKnown}
use Rattle.reduced_leaf.specs.declared.prices.Kind.{Kind}
use Rattle.reduced_leaf.specs.declared.prices.Kind.TheVariants.{Setups, Units}
use Rattle.reduced_groups.specs.declared.apart.GroupFault.{GroupFault}
use Rattle.reduced_groups.specs.declared.apart.GroupFault.TheVariants as group
use Rattle.reduced_leaf.specs.declared.sums.ReducedSum.{ReducedSum}
use Rattle.reduced_leaf.specs.declared.sums.ReducedSum.TheVariants as found
use Rattle.reduced_leaf.specs.declared.sums.ReducedFault.{ReducedFault}
use Rattle.reduced_leaf.specs.declared.sums.ReducedFault.TheVariants as fault
use Rattle.reduced_leaf.specs.Faults.{IsFirstOver, IsFirstPastAt}

-- what the sum leaves of den times the cost of a column
abbrev pub left_price : Problem → Summed → ℕ → Column → ℕ
left_price m summed den c = unsigned_abs ((pos den *ℤ pos (column_cost m c)) -ℤ (total_of summed c).sum)

abbrev pub column_of : Kind → ℕ → ℕ → Column
column_of Setups i t = Y i t
column_of Units i t = X i t

-- so many lists, each with an entry for each period
pub record HaveSeries (n periods : ℕ) (f : Table) (rows : List (List ℕ)) : Type 0 where
  pub size : length rows ≡ n
  pub each : (i : ℕ) → 1 ≤ i → i ≤ n → HasSeries periods (f i) (row_in rows i)

-- the numbers of groups add to this, or one of them has no choice
abbrev pub IsSumIn : Problem → Known → (Column → ℕ) → List GroupShape → Floor → Type 0
IsSumIn m known price shapes (Least least) = (amounts : List ℕ) × AreNumbersOf m known price shapes amounts × IsCapped (sum_of amounts) least
IsSumIn m known price shapes NoChoice = SomeLacksChoice m known price shapes

-- whatever is known of the problem
abbrev pub IsSumOfFloors : Problem → (Column → ℕ) → List GroupShape → Floor → Type 0
IsSumOfFloors m price shapes floor = WhateverIsKnown m (λ known. IsSumIn m known price shapes floor)

-- what two answers are together
abbrev pub AreBoth : Floor → Floor → Floor → Type 0
AreBoth (Least a) (Least b) (Least c) = IsCapped (a + b) c
AreBoth (Least a) (Least b) NoChoice = ⊥
AreBoth (Least a) NoChoice result = result ≡ NoChoice
AreBoth NoChoice other result = result ≡ NoChoice

-- the fault of a group at a place
abbrev pub IsWorkFault : ℕ → FloorFault → ReducedFault → Type 0
IsWorkFault k floor.Memory result = result ≡ fault.Memory
IsWorkFault k (floor.Price i t) result = result ≡ fault.Work k
IsWorkFault k floor.Entries result = result ≡ fault.Work k
IsWorkFault k floor.Horizon result = result ≡ fault.Work k
IsWorkFault k floor.TooDear result = result ≡ fault.Work k

-- a group has these shares of an item
pub record HasShares (s : GroupShape) (i : ℕ) (shares : List ℕ) : Type 0 where
  pub has : 1 ≤ times_of (items_in s) i
  pub each : (t : ℕ) → share_of s i t ≡ entry shares t

-- a charge on a backlog is no more than its reduced cost, which stays below the greatest number of 128 bits
pub record IsPaid (m : Problem) (summed : Summed) (den i t charge : ℕ) : Type 0 where
  pub within : charge ≤ left_price m summed den (R i t)
  pub small : left_price m summed den (R i t) < 2 ^ 128 - 1

-- the charges of an item before a period
abbrev pub ArePaidBefore : Problem → Summed → (den i : ℕ) → List ℕ → ℕ → Type 0
ArePaidBefore m summed den i row period = (t : ℕ) → 1 ≤ t → t < period → IsPaid m summed den i t (entry row t)

-- of an item that may be late, all of them
abbrev pub ArePaidOf : Problem → Summed → (den i : ℕ) → List ℕ → Type 0
ArePaidOf m summed den i row = IsSome (item_at m i).backlog_cost → ArePaidBefore m summed den i row m.periods

-- and of the first items
abbrev pub ArePaidTo : Problem → Summed → ℕ → List (List ℕ) → ℕ → Type 0
ArePaidTo m summed den rows n = (i : ℕ) → 1 ≤ i → i ≤ n → ArePaidOf m summed den i (row_in rows i)

-- the first period in which an item that may be late is charged more than that
pub record IsFirstOverOf (m : Problem) (summed : Summed) (den i : ℕ) (row : List ℕ) (period : ℕ) : Type 0 where
  pub late : IsSome (item_at m i).backlog_cost
  pub some : 1 ≤ period
  pub early : period < m.periods
  pub above : left_price m summed den (R i period) < entry row period
  pub before : ArePaidBefore m summed den i row period

-- the first item that is, in its first such period
pub record IsFirstOverIn (m : Problem) (summed : Summed) (den : ℕ) (rows : List (List ℕ)) (item period : ℕ) : Type 0 where
  pub low : 1 ≤ item
  pub high : item ≤ item_count m
  pub over : IsFirstOverOf m summed den item (row_in rows item) period
  pub before : ArePaidTo m summed den rows (item - 1)

-- the fault of charges
abbrev pub IsOverAs : Problem → Summed → ℕ → List (List ℕ) → ReducedFault → Type 0
IsOverAs m summed den rows (fault.Group k) = ⊥
IsOverAs m summed den rows (fault.Twice i) = ⊥
IsOverAs m summed den rows (fault.Charge i t) = IsFirstOverIn m summed den rows i t
IsOverAs m summed den rows (fault.Work k) = ⊥
IsOverAs m summed den rows fault.TooLarge = ⊥
IsOverAs m summed den rows fault.Memory = ⊥

-- the shares of groups charge more than its price on this backlog first
pub record IsChargedOver (m : Problem) (known : Known) (price : Column → ℕ) (shapes : List GroupShape) (item period : ℕ) : Type 0 where
  pub charge : Table
  pub charges : AreCharges m known.on_time (share_in shapes) charge
  pub first : IsFirstOver m price charge item period

-- why no sum of floors is found
abbrev pub StopsAt : Problem → (start on_time : Table) → (Column → ℕ) → List GroupShape → ReducedFault → Type 0
StopsAt m start on_time price shapes (fault.Group k) = ⊥
StopsAt m start on_time price shapes (fault.Twice i) = ⊥
StopsAt m start on_time price shapes (fault.Charge i t) = ⊥
StopsAt m start on_time price shapes (fault.Work k) = IsFirstPastAt m start on_time price shapes k
StopsAt m start on_time price shapes fault.TooLarge = ⊥
StopsAt m start on_time price shapes fault.Memory = ⊤

-- why there is no sum of groups that lie apart: shares that charge too much, or, where they don't, a group past the limits
abbrev pub StopsBy : Problem → (Column → ℕ) → List GroupShape → ReducedFault → Known → Type 0
StopsBy m price shapes (fault.Group k) known = ⊥
StopsBy m price shapes (fault.Twice i) known = ⊥
StopsBy m price shapes (fault.Charge i t) known = IsChargedOver m known price shapes i t
StopsBy m price shapes (fault.Work k) known = AreCharged m known price shapes × IsFirstPastAt m known.start known.on_time price shapes k
StopsBy m price shapes fault.TooLarge known = ⊥
StopsBy m price shapes fault.Memory known = ⊤

-- the right sides and the numbers of groups add to this, and it is small
pub record IsSumWith (right : ℤ) (amount : ℕ) (sum : ℤ) : Type 0 where
  pub sum_is : sum ≡ right +ℤ pos amount
  pub added : amount < 2 ^ 127
  pub small : sum <ℤ pos (2 ^ 127)

-- they are too large
abbrev pub PassesSum : ℤ → ℕ → Type 0
PassesSum right amount = (2 ^ 127 ≤ amount) ⊎ (pos (2 ^ 127) ≤ℤ (right +ℤ pos amount))

-- the answer that the right sides and the numbers of groups give
abbrev pub IsAnswerFrom : ℤ → Floor → Result ReducedSum ReducedFault → Type 0
IsAnswerFrom right NoChoice result = result ≡ Ok found.NoChoice
IsAnswerFrom right (Least amount) (Ok (found.Sum sum)) = IsSumWith right amount sum
IsAnswerFrom right (Least amount) (Ok found.NoChoice) = ⊥
IsAnswerFrom right (Least amount) (Err e) = (e ≡ fault.TooLarge) × PassesSum right amount

-- the same fault
abbrev pub IsFaultFrom : GroupFault → ReducedFault → Type 0
IsFaultFrom (group.Group k) result = result ≡ fault.Group k
IsFaultFrom (group.Twice i) result = result ≡ fault.Twice i
