-- A quantity and a setup, and grids that take them.
use Rattle.std.specs.Prelude.{◌≡◌, ◌≢◌, ◌⊎◌, ℕ, ◌≤◌, List, Option}
use Rattle.std.specs.Str.Parse.{digits_value}
use Rattle.lot_sizing.specs.Problem.{Problem, item_count}
use Rattle.lot_sizing.specs.Plan.{EachCell}
use Rattle.plan_rules.specs.Cells.{Fits, table_of}
use Rattle.plan_rules.specs.Order.{HoldsBefore}
use Rattle.csv_records.specs.Records.{Record, field}
use Rattle.lot_quantities.specs.Tables.{HasNumbers, IsRead, setup_in}
use Rattle.lot_quantities.specs.declared.columns.Columns.{Columns}
use Rattle.lot_quantities.specs.declared.quantities.Quantities.{Quantities}
use Rattle.lot_quantities.specs.declared.rows.Lot.{Lot}

-- both grids have the problem's items and periods
pub record BothFit (m : Problem) (q : Quantities) : Type 0 where
  pub make : Fits m q.make
  pub setup : Fits m q.setup

-- these are the quantity and the setup of a record
pub record HasLot (r : Record) (make : ℕ) (setup : Option ℕ) (x : Lot) : Type 0 where
  pub all : HasNumbers r make setup
  pub is_make : x.make ≡ digits_value 10 (field r make)
  pub is_setup : x.setup ≡ setup_in r x.make setup

-- the grids have them here
pub record AreHere (x : Lot) (q : Quantities) (i t : ℕ) : Type 0 where
  pub make : table_of q.make i t ≡ x.make
  pub setup : table_of q.setup i t ≡ x.setup

-- grids have the same numbers here
pub record AreSame (p q : Quantities) (i t : ℕ) : Type 0 where
  pub make : table_of q.make i t ≡ table_of p.make i t
  pub setup : table_of q.setup i t ≡ table_of p.setup i t

-- all but one stay
abbrev pub OthersStay : Problem → Quantities → Quantities → ℕ → ℕ → Type 0
OthersStay m p q i t = (j u : ℕ) → 1 ≤ j → j ≤ item_count m → 1 ≤ u → u ≤ m.periods → (j ≢ i) ⊎ (u ≢ t) → AreSame p q j u

-- the grids take the numbers here, and stay elsewhere
pub record IsPut (m : Problem) (p q : Quantities) (i t : ℕ) (x : Lot) : Type 0 where
  pub here : AreHere x q i t
  pub others : OthersStay m p q i t

abbrev pub IsReadInto : Problem → List Record → Columns → Quantities → ℕ → ℕ → Type 0
IsReadInto m rs k q = IsRead m rs k (table_of q.make) (table_of q.setup)

-- the grids take the numbers of the record here, which is good, and stay elsewhere
pub record IsPutFrom (m : Problem) (rs : List Record) (k : Columns) (p q : Quantities) (i t : ℕ) : Type 0 where
  pub read : IsReadInto m rs k q i t
  pub others : OthersStay m p q i t

-- the records before this one are good, and the grids have their numbers
abbrev pub AreReadBefore : Problem → List Record → Columns → Quantities → ℕ → ℕ → Type 0
AreReadBefore m rs k q i t = HoldsBefore (item_count m) m.periods (IsReadInto m rs k q) i t

-- so are all
abbrev pub AreRead : Problem → List Record → Columns → Quantities → Type 0
AreRead m rs k q = EachCell m (IsReadInto m rs k q)
