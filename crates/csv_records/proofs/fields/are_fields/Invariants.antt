use Rattle.std.proofs.Common.{◌≡◌, ◌<◌, ◌+◌, ℕ, [], map, slice_index_or}
use Rattle.csv.specs.Records.{fields_of}
use Rattle.csv_records.specs.Records.{field}
use Rattle.csv_records.proofs.fields.are_fields.Given as goal

-- the fields so far are the texts
abbrev pub invariant-loop-place : goal.invariant-loop-place
invariant-loop-place l = (k : ℕ) → k < l.place → field (fields_of l.row) (k + 1) ≡ slice_index_or (map (λ text. text.now) l.texts) k []
