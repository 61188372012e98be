-- What the records of a plan file mean.
use Rattle.std.specs.Prelude.{◌≡◌, ℕ, ◌+◌, ◌*◌, ◌≤◌, ◌<◌, Bool, ◌&&◌, ◌==◌, IsTrue, List, [], ◌∷◌, length, codes, decimal}
use Rattle.std.specs.Str.{bytes_eq}
use Rattle.std.specs.Str.Parse.{digits_value}
use Rattle.lot_sizing.specs.Problem.{Problem, item_at, item_count}
use Rattle.lot_sizing.specs.Plan.{EachCell, Plan}
use Rattle.plan_rules.specs.Cells.{place}
use Rattle.csv_records.specs.Records.{IsNumber, are_fields, field, record_at}
pub use Rattle.csv_records.specs.Records.{Record, records_of}
use Rattle.plan_file.specs.declared.fault.NumberField.{NumberField}
use Rattle.plan_file.specs.declared.fault.NumberField.TheVariants as fields

-- the number of a field that holds a number
abbrev pub field_number : NumberField → ℕ
field_number fields.Make = 3
field_number fields.Setup = 4
field_number fields.Stock = 5
field_number fields.Backlog = 6

-- the first record of a plan file
abbrev pub header : Record
header = codes "item" ∷ codes "period" ∷ codes "make" ∷ codes "setup" ∷ codes "stock" ∷ codes "backlog" ∷ []

-- whether a record is it, field by field
abbrev pub is_header : Record → Bool
is_header r = are_fields r header

-- the first record is the header
pub record HasHeader (rs : List Record) : Type 0 where
  pub there : 0 < length rs
  pub header : IsTrue (is_header (record_at rs 0))

-- the record of an item and a period, the header being record 0
abbrev pub number_of : Problem → ℕ → ℕ → ℕ
number_of m i t = place m.periods i t + 1

-- six fields, the item's name and the period first
abbrev pub is_row : Problem → ℕ → ℕ → Record → Bool
is_row m i t r = (length r == 6) && (bytes_eq (field r 1) (item_at m i).name && bytes_eq (field r 2) (decimal t))

-- the last four fields are numbers
abbrev pub HasNumbers : Record → Type 0
HasNumbers r = (c : ℕ) → 3 ≤ c → c ≤ 6 → IsNumber (field r c)

-- the record of an item and a period is there, is theirs and has numbers
pub record IsGood (m : Problem) (rs : List Record) (i t : ℕ) : Type 0 where
  pub there : number_of m i t < length rs
  pub row : IsTrue (is_row m i t (record_at rs (number_of m i t)))
  pub numbers : HasNumbers (record_at rs (number_of m i t))

-- the plan has the numbers of a record
pub record AreNumbersOf (r : Record) (p : Plan) (i t : ℕ) : Type 0 where
  pub make : p.make i t ≡ digits_value 10 (field r 3)
  pub setup : p.setup i t ≡ digits_value 10 (field r 4)
  pub stock : p.stock i t ≡ digits_value 10 (field r 5)
  pub backlog : p.backlog i t ≡ digits_value 10 (field r 6)

abbrev pub IsRead : Problem → List Record → Plan → ℕ → ℕ → Type 0
IsRead m rs p i t = IsGood m rs i t × AreNumbersOf (record_at rs (number_of m i t)) p i t

-- the records are a header and the plan's, and no others
pub record IsPlanOf (m : Problem) (rs : List Record) (p : Plan) : Type 0 where
  pub header : HasHeader rs
  pub count : length rs ≡ item_count m * m.periods + 1
  pub each : EachCell m (IsRead m rs p)
