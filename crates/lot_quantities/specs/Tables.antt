-- What the records of a table mean: quantities and setups.
use Rattle.std.specs.Prelude.{◌≡◌, ℕ, zero, suc, ◌+◌, ◌*◌, ◌<◌, Bool, ◌&&◌, ◌==◌, IfSome, IsTrue, List, Option, Some, None, decimal, length}
use Rattle.std.specs.Str.{bytes_eq}
use Rattle.std.specs.Str.Parse.{digits_value}
use Rattle.lot_sizing.specs.Problem.{Problem, item_at, item_count}
use Rattle.lot_sizing.specs.Plan.{EachCell, Table}
use Rattle.csv_records.specs.Records.{IsNumber, Record, field, record_at}
use Rattle.plan_file.specs.Records.{number_of}
use Rattle.lot_quantities.specs.Columns.{HasColumns}
use Rattle.lot_quantities.specs.declared.columns.Columns.{Columns}

-- the first record names the columns
pub record HasHeader (rs : List Record) (k : Columns) : Type 0 where
  pub there : 0 < length rs
  pub columns : HasColumns (record_at rs 0) k

-- as many fields as the first record, and the item's name and the period in their columns
abbrev pub is_row : Problem → Columns → ℕ → ℕ → Record → Bool
is_row m k i t r = (length r == k.width) && (bytes_eq (field r k.item) (item_at m i).name && bytes_eq (field r k.period) (decimal t))

-- the quantity is a number, and so is the setup where there are any
pub record HasNumbers (r : Record) (make_at : ℕ) (setup_at : Option ℕ) : Type 0 where
  pub make : IsNumber (field r make_at)
  pub setup : IfSome setup_at (λ c. IsNumber (field r c))

-- the record of an item and a period is there, is theirs and has numbers
pub record IsGood (m : Problem) (rs : List Record) (k : Columns) (i t : ℕ) : Type 0 where
  pub there : number_of m i t < length rs
  pub row : IsTrue (is_row m k i t (record_at rs (number_of m i t)))
  pub numbers : HasNumbers (record_at rs (number_of m i t)) k.make k.setup

-- a setup where something is made
abbrev pub setup_for : ℕ → ℕ
setup_for zero = 0
setup_for (suc make) = 1

-- the setup that stands in the column of setups, and without one a setup where something is made
abbrev pub setup_in : Record → ℕ → Option ℕ → ℕ
setup_in r make (Some c) = digits_value 10 (field r c)
setup_in r make None = setup_for make

-- the tables have the quantity and the setup of a record
pub record AreNumbersOf (r : Record) (k : Columns) (quantities setups : Table) (i t : ℕ) : Type 0 where
  pub make : quantities i t ≡ digits_value 10 (field r k.make)
  pub setup : setups i t ≡ setup_in r (quantities i t) k.setup

abbrev pub IsRead : Problem → List Record → Columns → Table → Table → ℕ → ℕ → Type 0
IsRead m rs k make setup i t = IsGood m rs k i t × AreNumbersOf (record_at rs (number_of m i t)) k make setup i t

-- the records are a header and one for each item and period in the order of plan files, and no others
pub record IsTableOf (m : Problem) (rs : List Record) (quantities setups : Table) : Type 0 where
  pub columns : Columns
  pub header : HasHeader rs columns
  pub count : length rs ≡ item_count m * m.periods + 1
  pub each : EachCell m (IsRead m rs columns quantities setups)
