use Rattle.std.proofs.Common.{◌+◌}
use Rattle.csv.specs.Records.{fields_of}
use Rattle.lot_quantities.specs.Columns.{NoneBetween}
use Rattle.lot_quantities.proofs.columns.next_column.Given as goal

abbrev pub invariant-loop-place : goal.invariant-loop-place
invariant-loop-place l = NoneBetween (fields_of l.row) l.name l.after (l.place + 1)
