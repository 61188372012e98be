-- What the steps to a table and to a largest lot hold.
use Rattle.std.specs.Prelude.{◌≡◌, ◌⊎◌, ℕ, zero, suc, ◌+◌, ◌*◌, ◌≤◌, ◌<◌, min, List, length, slice_index_or, Option, None, Some, IfSome}
use Rattle.lot_sizing.specs.Problem.{EachItem, Problem, item_at, item_count}
use Rattle.lot_sizing.specs.Plan.{Table}
use Rattle.lot_sizing.specs.Totals.{AreLargestTotals}
use Rattle.lot_sizing.specs.declared.limits.TheConstants.{MAX_TOTAL}
use Rattle.must_start.specs.MustStart.{greatest_to, must_arrive_in_time}
use Rattle.must_start.specs.Rows.{row_in, start_in}

-- a number for each period, and one for the time before the first
pub record HasEachTo (n : ℕ) (f : ℕ → ℕ) (xs : List ℕ) : Type 0 where
  pub size : length xs ≡ n + 1
  pub each : (t : ℕ) → t ≤ n → slice_index_or xs t 0 ≡ f t

-- rows of which none is past the largest total
pub record IsTable (m : Problem) (rows : List (List ℕ)) : Type 0 where
  pub size : length rows ≡ item_count m
  pub row_sizes : EachItem m (λ i. length (row_in rows i) ≡ m.periods + 1)
  pub within : (total : ℕ → ℕ) → AreLargestTotals m total → EachItem m (λ i. (t : ℕ) → t ≤ m.periods → start_in rows i t ≤ total i)

-- what must have been started of one item, by what must have been of the others
abbrev pub row_at : Problem → Table → ℕ → ℕ → ℕ
row_at m start i zero = 0
row_at m start i (suc t) = greatest_to (min (suc t + (item_at m i).lead) m.periods) (must_arrive_in_time m start i)

-- the quantities of one item that must have arrived by any period up to each one
abbrev pub HasArrivals : Problem → Table → ℕ → List ℕ → Type 0
HasArrivals m start i xs = HasEachTo m.periods (λ t. greatest_to t (must_arrive_in_time m start i)) xs

-- and its row
abbrev pub IsRowOf : Problem → Table → ℕ → List ℕ → Type 0
IsRowOf m start i xs = HasEachTo m.periods (row_at m start i) xs

-- an item comes before another one, by rank and then by number
abbrev pub IsBefore : (ℕ → ℕ) → ℕ → ℕ → ℕ → Type 0
IsBefore rank i at_rank at_item = (rank i < at_rank) ⊎ ((rank i ≡ at_rank) × (i < at_item))

-- the rows of all items before this place have what they must
pub record IsFilledTo (m : Problem) (rank : ℕ → ℕ) (at_rank at_item : ℕ) (rows : List (List ℕ)) : Type 0 where
  pub table : IsTable m rows
  pub each : EachItem m (λ i. IsBefore rank i at_rank at_item → (t : ℕ) → t ≤ m.periods → start_in rows i t ≡ row_at m (start_in rows) i t)

-- the most of an item's lots in any period: it is within the largest total and the bound on lots, and all that is within both is no more
pub record IsMostInALot (m : Problem) (i lot : ℕ) : Type 0 where
  pub in_all : (total : ℕ → ℕ) → AreLargestTotals m total → lot ≤ total i
  pub most : IfSome (item_at m i).max_lot (λ most. lot ≤ most)
  pub largest : (total : ℕ → ℕ) → AreLargestTotals m total → (x : ℕ) → x ≤ total i → IfSome (item_at m i).max_lot (λ most. x ≤ most) → x ≤ lot
  pub small : lot ≤ MAX_TOTAL

-- one resource has the time for a quantity and a setup
abbrev pub IsInTime : ℕ → ℕ → ℕ → ℕ → Type 0
IsInTime unit setup capacity x = unit * x + setup ≤ capacity

-- the largest quantity up to the most for which it has, and none where it has for no quantity at all
pub record IsLargestInTime (most unit setup capacity lot : ℕ) : Type 0 where
  pub within : lot ≤ most
  pub time : IsInTime unit setup capacity lot
  pub largest : (x : ℕ) → x ≤ most → IsInTime unit setup capacity x → x ≤ lot

abbrev pub IsLargestOrNone : ℕ → ℕ → ℕ → ℕ → Option ℕ → Type 0
IsLargestOrNone most unit setup capacity None = (x : ℕ) → IsInTime unit setup capacity x → ⊥
IsLargestOrNone most unit setup capacity (Some lot) = IsLargestInTime most unit setup capacity lot
