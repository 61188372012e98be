use Rattle.std.proofs.Common.{map}
use Rattle.csv.specs.Records.{fields_of}
use Rattle.lot_quantities.specs.Numbers.{AreReadBefore, BothFit}
use Rattle.lot_quantities.proofs.reading.read_records.Given as goal

abbrev pub invariant-loop-item : goal.invariant-loop-item
invariant-loop-item l = BothFit l.instance l.into × AreReadBefore l.instance (map fields_of l.rows) l.columns l.into l.item 1
