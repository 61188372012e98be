-- What the steps to a table of starts on time and to charges hold.
use Rattle.std.specs.Prelude.{◌≡◌, ℕ, zero, suc, ◌+◌, ◌-◌, ◌*◌, ◌≤◌, if◌then◌else◌, ◌==◌, List, length, Vec}
use Rattle.std.specs.declared.alloc.Global.{Global}
use Rattle.lot_sizing.specs.Sums.{sum_to}
use Rattle.lot_sizing.specs.Problem.{EachItem, Problem, entry, item_at, item_count, per_unit}
use Rattle.lot_sizing.specs.Plan.{Table}
use Rattle.must_start.specs.MustStart.{may_be_late, must_arrive}
use Rattle.must_start.specs.Rows.{row_in, start_in}
use Rattle.must_start.specs.Steps.{HasEachTo, IsBefore, IsTable}
use Rattle.late_starts.specs.OnTime.{arrival}
use Rattle.late_starts.specs.Charges.{AreLoads, arriving_load}
use Rattle.late_starts.specs.Rows.{HaveCells, capped, cell_in, rows_of}

-- a number for each period
pub record HasEach (n : ℕ) (f : ℕ → ℕ) (xs : List ℕ) : Type 0 where
  pub size : length xs ≡ n
  pub each : (t : ℕ) → 1 ≤ t → t ≤ n → entry xs t ≡ f t

-- what must have arrived of an item by the end of each period
abbrev pub HasArrivals : Problem → Table → ℕ → List ℕ → Type 0
HasArrivals m start i xs = HasEach m.periods (must_arrive m start i) xs

-- what is on time of one item, by what is of the others
abbrev pub row_at : Problem → Table → ℕ → ℕ → ℕ
row_at m start i zero = 0
row_at m start i (suc t) = must_arrive m start i (arrival m i (suc t))

-- and its row
abbrev pub IsRowOf : Problem → Table → ℕ → List ℕ → Type 0
IsRowOf m start i xs = HasEachTo m.periods (row_at m start i) xs

-- each item that comes before a place, by depth and then by number
abbrev pub EachBefore : Problem → (ℕ → ℕ) → ℕ → ℕ → (ℕ → Type 0) → Type 0
EachBefore m depth at_depth at_item R = EachItem m (λ i. IsBefore depth i at_depth at_item → R i)

-- the row of an item has what it must
abbrev pub IsRightRow : Problem → List (List ℕ) → ℕ → Type 0
IsRightRow m rows i = (t : ℕ) → t ≤ m.periods → start_in rows i t ≡ row_at m (start_in rows) i t

-- the rows of all items before a place have what they must
pub record IsFilledTo (m : Problem) (rank : ℕ → ℕ) (at_rank at_item : ℕ) (rows : List (List ℕ)) : Type 0 where
  pub table : IsTable m rows
  pub each : EachBefore m rank at_rank at_item (IsRightRow m rows)

-- the load of an item and a period, by what its components put on it
abbrev pub load_by : Problem → List (List ℕ) → ℕ → ℕ → ℕ → ℕ
load_by m arriving share j v = share + sum_to (item_count m) (λ i. per_unit m i j * cell_in arriving i v)

-- the row of an item has the loads that count for each period
abbrev pub IsArrivingRow : Problem → (start load : Table) → List (List ℕ) → ℕ → Type 0
IsArrivingRow m start load rows i = (v : ℕ) → 1 ≤ v → v ≤ m.periods → cell_in rows i v ≡ capped (arriving_load m start load i v)

-- the rows of all items before a place have, whatever the loads are
pub record IsLoadedTo (m : Problem) (start share : Table) (depth : ℕ → ℕ) (at_depth at_item : ℕ) (rows : List (List ℕ)) : Type 0 where
  pub cells : HaveCells m rows
  pub each : (load : Table) → AreLoads m start share load → EachBefore m depth at_depth at_item (IsArrivingRow m start load rows)

-- the depth of an item: the farther it is from the products that it goes into, the sooner it comes
abbrev pub depth_by : Problem → (ℕ → ℕ) → ℕ → ℕ
depth_by m rank i = item_count m - rank i

-- and those of all items have, for the loads that there are
pub record IsLoaded (m : Problem) (start share : Table) (rows : List (List ℕ)) : Type 0 where
  pub cells : HaveCells m rows
  pub load : Table
  pub loads : AreLoads m start share load
  pub each : EachItem m (IsArrivingRow m start load rows)

-- what is charged on the backlog of an item at the end of a period, by the loads that count for it
abbrev pub charge_by : Problem → List (List ℕ) → ℕ → ℕ → ℕ
charge_by m arriving i v = if may_be_late m i v then cell_in arriving i v else 0

-- the charges of all items
pub record HaveCharges (m : Problem) (arriving rows : List (List ℕ)) : Type 0 where
  pub size : length rows ≡ item_count m
  pub each : EachItem m (λ i. HasEach m.periods (charge_by m arriving i) (row_in rows i))

-- the loads of the first n periods whose lots arrive in a period
abbrev pub arriving_to : Problem → (start load : Table) → ℕ → ℕ → ℕ → ℕ
arriving_to m start load i n v = sum_to n (λ t. if arrival m i t == v then (if start i t == 0 then 0 else load i t) else 0)

-- the required end stock in the last period, and 0 before
abbrev pub end_min_by : Problem → ℕ → ℕ → ℕ
end_min_by m i t = if t == m.periods then (item_at m i).end_min else 0

-- the load of a period, and nothing where nothing would have to be started by its end
abbrev pub needed_in : (on_time : List (List ℕ)) → (loads : List ℕ) → ℕ → ℕ → ℕ
needed_in on_time loads i t = if start_in on_time i t == 0 then 0 else entry loads t

-- the loads of an item, but for numbers of more than 128 bits
abbrev pub HasLoads : Problem → (arriving : List (List ℕ)) → (shares : List ℕ) → ℕ → Vec ℕ Global → Type 0
HasLoads m arriving shares j loads = HasEach m.periods (λ v. capped (load_by m arriving (entry shares v) j v)) loads.items

-- those that count for each period
abbrev pub HasArrivingLoads : Problem → (on_time : List (List ℕ)) → (loads : List ℕ) → ℕ → Vec ℕ Global → Type 0
HasArrivingLoads m on_time loads i list = HasEach m.periods (λ v. capped (arriving_load m (start_in on_time) (λ _. entry loads) i v)) list.items

-- and what they charge
abbrev pub HasCharges : Problem → (arriving : List (List ℕ)) → ℕ → Vec ℕ Global → Type 0
HasCharges m arriving i list = HasEach m.periods (charge_by m arriving i) list.items

abbrev pub HaveChargesIn : Problem → (arriving : List (List ℕ)) → Vec (Vec ℕ Global) Global → Type 0
HaveChargesIn m arriving found = HaveCharges m arriving (rows_of found.items)

-- by ranks, what is on time and shares as lists: the rows of all items before a place
abbrev pub AreLoadedTo : Problem → (ranks : List ℕ) → (on_time : List (List ℕ)) → (shares : List (Vec ℕ Global)) → ℕ → ℕ → List (List ℕ) → Type 0
AreLoadedTo m ranks on_time shares at_depth at_item rows = IsLoadedTo m (start_in on_time) (cell_in (rows_of shares)) (depth_by m (entry ranks)) at_depth at_item rows

abbrev pub depth_in : Problem → (ranks : List ℕ) → ℕ → ℕ
depth_in m ranks i = depth_by m (entry ranks) i

abbrev pub AreLoaded : Problem → (on_time : List (List ℕ)) → (shares : List (Vec ℕ Global)) → List (List ℕ) → Type 0
AreLoaded m on_time shares rows = IsLoaded m (start_in on_time) (cell_in (rows_of shares)) rows

-- by a list of ranks: the rows of all items before a place
abbrev pub AreFilledTo : Problem → (ranks : List ℕ) → ℕ → ℕ → List (List ℕ) → Type 0
AreFilledTo m ranks at_rank at_item rows = IsFilledTo m (entry ranks) at_rank at_item rows
