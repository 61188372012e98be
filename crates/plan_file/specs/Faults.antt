-- Why the records of a plan file mean no plan.
use Rattle.std.specs.Prelude.{◌≡◌, ◌≢◌, ◌⊎◌, ℕ, ◌+◌, ◌*◌, ◌≤◌, ◌<◌, IsTrue, List, length, ⊤}
use Rattle.lot_sizing.specs.Problem.{Problem, item_count}
use Rattle.lot_sizing.specs.Plan.{EachCell}
use Rattle.plan_rules.specs.Order.{IsFirst}
use Rattle.csv_records.specs.Records.{IsNumber, Record, field, record_at}
use Rattle.plan_file.specs.Records.{HasHeader, IsGood, field_number, is_row, number_of}
use Rattle.plan_file.specs.declared.fault.NumberField.{NumberField}
use Rattle.plan_file.specs.declared.fault.PlanFault.{PlanFault}
use Rattle.plan_file.specs.declared.fault.PlanFault.TheVariants as fault

-- the first of the last four fields that is no number
pub record IsFirstBad (r : Record) (at : NumberField) : Type 0 where
  pub bad : IsNumber (field r (field_number at)) → ⊥
  pub before : (c : ℕ) → 3 ≤ c → c < field_number at → IsNumber (field r c)

-- why the record of an item and a period isn't good
abbrev pub IsRecordFault : Problem → List Record → ℕ → ℕ → PlanFault → Type 0
IsRecordFault m rs i t fault.Header = ⊥
IsRecordFault m rs i t fault.RowCount = number_of m i t < length rs → ⊥
IsRecordFault m rs i t (fault.Row n) = (n ≡ number_of m i t) × (number_of m i t < length rs) × (IsTrue (is_row m i t (record_at rs (number_of m i t))) → ⊥)
IsRecordFault m rs i t (fault.Number n at) = (n ≡ number_of m i t) × (number_of m i t < length rs) × IsTrue (is_row m i t (record_at rs (number_of m i t))) × IsFirstBad (record_at rs (number_of m i t)) at
IsRecordFault m rs i t fault.Memory = ⊥

-- the fault of the first record that isn't good
abbrev pub IsCellFault : Problem → List Record → PlanFault → Type 0
IsCellFault m rs f = (i t : ℕ) × IsFirst (item_count m) m.periods (IsGood m rs) i t × IsRecordFault m rs i t f

-- more records follow the last
pub record HasMore (m : Problem) (rs : List Record) : Type 0 where
  pub good : EachCell m (IsGood m rs)
  pub more : length rs ≢ item_count m * m.periods + 1

-- the first fault in the order of the file, where memory isn't the cause
abbrev pub IsPlanFault : Problem → List Record → PlanFault → Type 0
IsPlanFault m rs fault.Header = HasHeader rs → ⊥
IsPlanFault m rs fault.RowCount = HasHeader rs × (IsCellFault m rs fault.RowCount ⊎ HasMore m rs)
IsPlanFault m rs (fault.Row n) = HasHeader rs × IsCellFault m rs (fault.Row n)
IsPlanFault m rs (fault.Number n at) = HasHeader rs × IsCellFault m rs (fault.Number n at)
IsPlanFault m rs fault.Memory = ⊤
