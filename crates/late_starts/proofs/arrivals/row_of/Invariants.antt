use Rattle.std.proofs.Common.{◌-◌}
use Rattle.must_start.specs.Rows.{start_in}
use Rattle.must_start.specs.Steps.{HasEachTo}
use Rattle.late_starts.specs.Steps.{row_at}
use Rattle.late_starts.proofs.arrivals.row_of.Given as goal

abbrev pub invariant-loop-period : goal.invariant-loop-period
invariant-loop-period l = HasEachTo (l.period - 1) (row_at l.instance (start_in l.table) l.item) l.row.items
