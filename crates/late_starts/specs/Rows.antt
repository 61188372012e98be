-- Tables of numbers by item and period: a row for each item.
use Rattle.std.specs.Prelude.{◌≡◌, ℕ, ◌+◌, ◌-◌, ◌^◌, ◌≤◌, min, List, length, map, Vec}
use Rattle.std.specs.declared.alloc.Global.{Global}
use Rattle.lot_sizing.specs.Problem.{EachItem, Problem, entry, item_count}
use Rattle.lot_sizing.specs.Plan.{EachCell, Plan, IsFeasible, Table}
use Rattle.lot_sizing.specs.declared.limits.TheConstants.{MAX_TOTAL}
use Rattle.must_start.specs.Rows.{row_in, start_in}
use Rattle.late_starts.specs.OnTime.{AreOnTime, AreShortfalls, HasStartedBut}
use Rattle.late_starts.specs.Charges.{AreCharges}

-- what is on time of each item of a problem by the end of each period; that of period 0 comes first
pub record IsOnTimeOf (m : Problem) (rows : List (List ℕ)) : Type 0 where
  pub size : length rows ≡ item_count m
  pub row_sizes : EachItem m (λ i. length (row_in rows i) ≡ m.periods + 1)
  pub starts : AreOnTime m (start_in rows)
  pub small : EachCell m (λ i t. start_in rows i t ≤ MAX_TOTAL)

-- every feasible plan has started it, but for what its backlogs allow
abbrev pub AllHaveStartedBut : Problem → Table → Type 0
AllHaveStartedBut m start = (p : Plan) → IsFeasible m p → (short : Table) → AreShortfalls m start p.backlog short → HasStartedBut m start short p

-- a row for each item, with an entry for each period
pub record HaveCells (m : Problem) (rows : List (List ℕ)) : Type 0 where
  pub size : length rows ≡ item_count m
  pub row_sizes : EachItem m (λ i. length (row_in rows i) ≡ m.periods)

-- the entry of an item and a period, both counted from 1
abbrev pub cell_in : List (List ℕ) → Table
cell_in rows i t = entry (row_in rows i) t

-- a number, or the greatest one of 128 bits where it is past that
abbrev pub capped : ℕ → ℕ
capped x = min x (2 ^ 128 - 1)

-- the charges of shares, but for numbers of more than 128 bits
pub record AreCappedCharges (m : Problem) (start share : Table) (rows : List (List ℕ)) : Type 0 where
  pub cells : HaveCells m rows
  pub charge : Table
  pub charges : AreCharges m start share charge
  pub each : EachCell m (λ i v. cell_in rows i v ≡ capped (charge i v))

-- the rows of a grid
abbrev pub rows_of : List (Vec ℕ Global) → List (List ℕ)
rows_of grid = map (λ v. v.items) grid

-- what shares charge, by what is on time
abbrev pub AreChargesOf : Problem → (on_time : List (List ℕ)) → (shares : List (Vec ℕ Global)) → Vec (Vec ℕ Global) Global → Type 0
AreChargesOf m on_time shares found = AreCappedCharges m (start_in on_time) (cell_in (rows_of shares)) (rows_of found.items)
