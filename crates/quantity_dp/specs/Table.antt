-- The rows of the table: least prices by the quantity that has been started by the end of a period.
use Rattle.std.specs.Prelude.{◌≡◌, ℕ, zero, suc, ◌+◌, ◌-◌, ◌*◌, ◌≤◌, ◌<◌, max, min, List, length, slice_index_or, Option, Some, None}
use Rattle.lot_sizing.specs.Sums.{sum_to}
use Rattle.lot_sizing.specs.Single.{NetPlan}
use Rattle.quantity_dp.specs.declared.lots.LotPeriod.{LotPeriod}
use Rattle.quantity_dp.specs.Lots.{IsChoiceTo, Lots, lot_at, price_to}

-- the greatest that must have been started or is asked in the first periods, and 0 where there are none
pub record IsGreatestTo (lots : List LotPeriod) (n most : ℕ) : Type 0 where
  pub each : (t : ℕ) → 1 ≤ t → t ≤ n → max (lot_at lots t).need (lot_at lots t).asked ≤ most
  pub some : 0 < most → (t : ℕ) × (1 ≤ t) × (t ≤ n) × (max (lot_at lots t).need (lot_at lots t).asked ≡ most)

abbrev pub IsGreatestNeed : List LotPeriod → ℕ → Type 0
IsGreatestNeed lots most = IsGreatestTo lots (length lots) most

-- the price of a quantity, and none where there is none
abbrev pub price_in : List (Option ℕ) → ℕ → Option ℕ
price_in row k = slice_index_or row k None

-- the greatest quantity of a row
abbrev pub most_in : List (Option ℕ) → ℕ
most_in row = length row - 1

-- a price with more added to it
abbrev pub brought : Option ℕ → ℕ → Option ℕ
brought None more = None
brought (Some c) more = Some (c + more)

-- the price of a quantity, and of the units that it lacks of the most
abbrev pub brought_in : List (Option ℕ) → ℕ → ℕ → Option ℕ
brought_in row unit k = brought (price_in row k) (unit * (most_in row - k))

-- no price of a row is above this
abbrev pub AreSmall : ℕ → List (Option ℕ) → Type 0
AreSmall most row = (k c : ℕ) → k < length row → price_in row k ≡ Some c → c ≤ most

-- before the first period nothing costs nothing, and there is nothing else
pub record HasFirst (most : ℕ) (row : List (Option ℕ)) : Type 0 where
  pub size : length row ≡ most + 1
  pub first : price_in row 0 ≡ Some 0
  pub none : (k : ℕ) → 0 < k → price_in row k ≡ None

-- the lesser of two prices where there are both
abbrev pub IsLesser : Option ℕ → Option ℕ → Option ℕ → Type 0
IsLesser None other o = o ≡ other
IsLesser (Some c) None o = o ≡ Some c
IsLesser (Some c) (Some d) o = o ≡ Some (min c d)

-- what a lot costs: nothing where there is none, else a setup and its units
abbrev pub lot_price : LotPeriod → ℕ → ℕ
lot_price lot zero = 0
lot_price lot (suc x) = lot.setup + lot.unit * suc x

-- what a setup makes of the least price of the window, in which each price stands with that of the units that it lacks
abbrev pub made_by : LotPeriod → List (Option ℕ) → ℕ → Option ℕ → Option ℕ
made_by lot row to None = None
made_by lot row to (Some v) = Some (v - lot.unit * (most_in row - to) + lot.setup)

-- what a lot costs, and the units that fall short of what is asked after it
abbrev pub step_price : LotPeriod → (x to : ℕ) → ℕ
step_price lot x to = lot_price lot x + lot.share * (lot.asked - to)

-- a lot of x brings what has been started from one quantity to another, where what goes past the most counts no more
pub record IsStep (lot : LotPeriod) (most from x to : ℕ) : Type 0 where
  pub within : x ≤ lot.largest
  pub need : lot.need ≤ from + x
  pub total : to ≡ min (from + x) most

-- an entry of the next row: some step to it costs no more, and none costs less
pub record IsReached (lot : LotPeriod) (row : List (Option ℕ)) (to c : ℕ) : Type 0 where
  pub from : ℕ
  pub x : ℕ
  pub price : ℕ
  pub sum : from + x ≡ to
  pub step : IsStep lot (most_in row) from x to
  pub before : price_in row from ≡ Some price
  pub costs : price + step_price lot x to ≤ c

pub record IsNextSome (lot : LotPeriod) (row : List (Option ℕ)) (to c : ℕ) : Type 0 where
  pub reached : IsReached lot row to c
  pub least : (from x b : ℕ) → from < length row → IsStep lot (most_in row) from x to → price_in row from ≡ Some b → c ≤ b + step_price lot x to

abbrev pub IsNextEntry : LotPeriod → List (Option ℕ) → ℕ → Option ℕ → Type 0
IsNextEntry lot row to None = (from x b : ℕ) → from < length row → IsStep lot (most_in row) from x to → price_in row from ≡ Some b → ⊥
IsNextEntry lot row to (Some c) = IsNextSome lot row to c

-- the first entries of the next row
pub record IsNextTo (lot : LotPeriod) (row : List (Option ℕ)) (n : ℕ) (next : List (Option ℕ)) : Type 0 where
  pub size : length next ≡ n
  pub each : (to : ℕ) → to < n → IsNextEntry lot row to (price_in next to)

-- choices of the first periods that have started a quantity, or at least the most
pub record IsWayTo (a : Lots) (n most z : ℕ) (q : NetPlan) : Type 0 where
  pub choice : IsChoiceTo a n q
  pub total : min (sum_to n q.make) most ≡ z

-- the least price of them, and none where there are none
pub record IsLeastWay (a : Lots) (n most z c : ℕ) : Type 0 where
  pub some : (q : NetPlan) × IsWayTo a n most z q × (price_to a n q ≡ c)
  pub least : (q : NetPlan) → IsWayTo a n most z q → c ≤ price_to a n q

abbrev pub IsLeastTo : Lots → ℕ → ℕ → ℕ → Option ℕ → Type 0
IsLeastTo a n most z None = (q : NetPlan) → IsWayTo a n most z q → ⊥
IsLeastTo a n most z (Some c) = IsLeastWay a n most z c

-- the row of the first periods
pub record IsRow (a : Lots) (n most : ℕ) (row : List (Option ℕ)) : Type 0 where
  pub size : length row ≡ most + 1
  pub each : (z : ℕ) → z ≤ most → IsLeastTo a n most z (price_in row z)
