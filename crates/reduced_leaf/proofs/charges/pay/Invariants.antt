use Rattle.std.proofs.Common.{◌-◌}
use Rattle.late_starts.specs.Rows.{rows_of}
use Rattle.reduced_leaf.specs.Found.{ArePaidTo}
use Rattle.reduced_leaf.proofs.charges.pay.Given as goal

abbrev pub invariant-loop-item : goal.invariant-loop-item
invariant-loop-item l = ArePaidTo l.instance l.sums l.den (rows_of l.rows) (l.item - 1)
