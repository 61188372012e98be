-- The records of rows that were read.
use Rattle.std.proofs.Common.{◌≡◌, ◌<◌, ◌∙◌, ℕ, List, [], map, length, slice_index_or, sym, ap}
use Rattle.std.proofs.lemmas.List.{get_or-map}
use Rattle.csv.specs.Records.{Row, fields_of}
use Rattle.csv_records.specs.Records.{record_at}

-- a record by its number
pub record_is : (rows : List Row) (n : ℕ) (row : Row) → n < length rows → row ≡ slice_index_or rows n row → record_at (map fields_of rows) n ≡ fields_of row
record_is rows n row less found = get_or-map fields_of rows n row [] less ∙ ap fields_of (sym found)
