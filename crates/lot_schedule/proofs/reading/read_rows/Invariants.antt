use Rattle.std.proofs.Common.{map}
use Rattle.csv.specs.Records.{fields_of}
use Rattle.lot_schedule.proofs.Rowed.{AreReadTo}
use Rattle.lot_schedule.proofs.reading.read_rows.Given as goal

abbrev pub invariant-loop-place : goal.invariant-loop-place
invariant-loop-place l = AreReadTo l.instance (map fields_of l.rows) l.slots.items l.place
