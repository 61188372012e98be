-- Why the records of a table mean no quantities.
use Rattle.std.specs.Prelude.{◌≡◌, ◌≢◌, ◌⊎◌, ℕ, ◌+◌, ◌*◌, ◌<◌, IsTrue, List, Option, Some, length, ⊤}
use Rattle.lot_sizing.specs.Problem.{Problem, item_count}
use Rattle.lot_sizing.specs.Plan.{EachCell}
use Rattle.plan_rules.specs.Order.{IsFirst}
use Rattle.csv_records.specs.Records.{IsNumber, Record, field, record_at}
use Rattle.plan_file.specs.Records.{number_of}
use Rattle.lot_quantities.specs.Tables.{HasHeader, IsGood, is_row}
use Rattle.lot_quantities.specs.declared.columns.Columns.{Columns}
use Rattle.lot_quantities.specs.declared.fault.QuantityFault.{QuantityFault}
use Rattle.lot_quantities.specs.declared.fault.QuantityFault.TheVariants as fault

-- a column of quantities or setups
abbrev pub HoldsNumbers : ℕ → Option ℕ → ℕ → Type 0
HoldsNumbers make setup c = (c ≡ make) ⊎ (setup ≡ Some c)

-- the first column with a quantity or setup that is no number
pub record IsFirstBad (r : Record) (make : ℕ) (setup : Option ℕ) (c : ℕ) : Type 0 where
  pub column : HoldsNumbers make setup c
  pub bad : IsNumber (field r c) → ⊥
  pub before : (d : ℕ) → HoldsNumbers make setup d → d < c → IsNumber (field r d)

-- why the record of an item and a period isn't good
abbrev pub IsRecordFault : Problem → List Record → Columns → ℕ → ℕ → QuantityFault → Type 0
IsRecordFault m rs k i t fault.Header = ⊥
IsRecordFault m rs k i t fault.RowCount = number_of m i t < length rs → ⊥
IsRecordFault m rs k i t (fault.Row n) = (n ≡ number_of m i t) × (number_of m i t < length rs) × (IsTrue (is_row m k i t (record_at rs (number_of m i t))) → ⊥)
IsRecordFault m rs k i t (fault.Number n c) = (n ≡ number_of m i t) × (number_of m i t < length rs) × IsTrue (is_row m k i t (record_at rs (number_of m i t))) × IsFirstBad (record_at rs (number_of m i t)) k.make k.setup c
IsRecordFault m rs k i t fault.Memory = ⊥

-- the fault of the first record that isn't good
abbrev pub IsCellFault : Problem → List Record → Columns → QuantityFault → Type 0
IsCellFault m rs k f = (i t : ℕ) × IsFirst (item_count m) m.periods (IsGood m rs k) i t × IsRecordFault m rs k i t f

-- more records follow the last
pub record HasMore (m : Problem) (rs : List Record) (k : Columns) : Type 0 where
  pub good : EachCell m (IsGood m rs k)
  pub more : length rs ≢ item_count m * m.periods + 1

-- the columns have their names, and this fault is the first
abbrev pub IsFaultUnder : Problem → List Record → QuantityFault → Type 0
IsFaultUnder m rs f = (k : Columns) × HasHeader rs k × IsCellFault m rs k f

-- the first fault in the order of the file, where memory isn't the cause
abbrev pub IsQuantityFault : Problem → List Record → QuantityFault → Type 0
IsQuantityFault m rs fault.Header = (k : Columns) → HasHeader rs k → ⊥
IsQuantityFault m rs fault.RowCount = IsFaultUnder m rs fault.RowCount ⊎ ((k : Columns) × HasHeader rs k × HasMore m rs k)
IsQuantityFault m rs (fault.Row n) = IsFaultUnder m rs (fault.Row n)
IsQuantityFault m rs (fault.Number n c) = IsFaultUnder m rs (fault.Number n c)
IsQuantityFault m rs fault.Memory = ⊤
