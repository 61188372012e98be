use Rattle.std.proofs.Common.{◌≡◌, ◌-◌}
use Rattle.lot_sizing.specs.Sums.{sum_to}
use Rattle.lot_sizing.specs.Problem.{demand}
use Rattle.must_start.specs.MustStart.{must_arrive}
use Rattle.must_start.specs.Rows.{start_in}
use Rattle.late_starts.specs.Steps.{HasEach}
use Rattle.late_starts.proofs.arrivals.arrivals_of.Given as goal

abbrev pub invariant-loop-period : goal.invariant-loop-period
invariant-loop-period l = record {
  demanded : l.demanded ≡ sum_to (l.period - 1) (demand l.instance l.item);
  list : HasEach (l.period - 1) (must_arrive l.instance (start_in l.table) l.item) l.list.items;
}
