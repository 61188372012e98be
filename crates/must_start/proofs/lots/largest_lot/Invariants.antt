use Rattle.std.proofs.Common.{◌-◌}
use Rattle.must_start.proofs.LargestLots.{IsLargestTo}
use Rattle.must_start.proofs.lots.largest_lot.Given as goal

abbrev pub invariant-loop-resource : goal.invariant-loop-resource
invariant-loop-resource l = IsLargestTo l.instance l.item l.period (l.resource - 1) l.lot
