-- The records of a text, and the fields of a record.
use Rattle.std.specs.Prelude.{◌≡◌, ℕ, ◌-◌, ◌^◌, ◌<◌, Bool, true, false, ◌&&◌, List, [], ◌∷◌, length, slice_index_or, unwrap_or}
use Rattle.std.specs.Str.{bytes_eq}
use Rattle.std.specs.Str.Parse.{digits_value}
use Rattle.csv.specs.Reading.{default_config, records, strip_bom}
use Rattle.csv.specs.Records.{field_at}
use Rattle.whole_numbers.specs.Digits.{IsWholeText}

-- a record as its fields
abbrev pub Record : Type 0
Record = List (List ℕ)

-- the records of a text, with no header row
abbrev pub records_of : List ℕ → List Record
records_of bytes = records default_config (strip_bom bytes)

-- a record by its number, counted from 0, and nothing where it is absent
abbrev pub record_at : List Record → ℕ → Record
record_at rs n = slice_index_or rs n []

-- a field by its number, counted from 1, and nothing where it is absent
abbrev pub field : Record → ℕ → List ℕ
field r c = unwrap_or (field_at r (c - 1)) []

-- whether the fields of a record are these texts and no others
abbrev pub are_fields : Record → Record → Bool
are_fields [] [] = true
are_fields [] (text ∷ texts) = false
are_fields (f ∷ r) [] = false
are_fields (f ∷ r) (text ∷ texts) = bytes_eq f text && are_fields r texts

-- the first record is this one
pub record BeginsWith (rs : List Record) (first : Record) : Type 0 where
  pub there : 0 < length rs
  pub header : record_at rs 0 ≡ first

-- decimal digits of a number that fits 64 bits
pub record IsNumber (text : List ℕ) : Type 0 where
  pub whole : IsWholeText text
  pub fits : digits_value 10 text < 2 ^ 64
