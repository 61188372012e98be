-- Laws of the text of records.
use Rattle.std.specs.Prelude.{◌≡◌, ◌≢◌, List, []}
use Rattle.std.specs.List.{All, flat_map}
use Rattle.csv.specs.Reading.{strip_bom}
use Rattle.csv_records.specs.Records.{Record, records_of}
use Rattle.csv_records.specs.Written.{IsPlainRecord, line_of, records_text}

-- records of plain fields are written as their lines
abbrev pub PlainRecordsAreLines : Type 0
PlainRecordsAreLines =
    (rs : List Record) → All IsPlainRecord rs → records_text rs ≡ flat_map line_of rs

-- records that were written are read back, unless their text begins with a byte order mark
abbrev pub WrittenRecordsAreRead : Type 0
WrittenRecordsAreRead =
    (rs : List Record) → All (λ r. r ≢ []) rs → strip_bom (records_text rs) ≡ records_text rs
    → records_of (records_text rs) ≡ rs
