use Rattle.std.proofs.Common.{◌≡◌, ◌-◌}
use Rattle.lot_sizing.specs.Sums.{sum_to}
use Rattle.lot_sizing.specs.Problem.{demand}
use Rattle.must_start.specs.MustStart.{greatest_to, must_arrive_in_time}
use Rattle.must_start.specs.Rows.{start_in}
use Rattle.must_start.specs.Steps.{HasEachTo}
use Rattle.must_start.proofs.arrivals.arrivals_of.Given as goal

abbrev pub invariant-loop-period : goal.invariant-loop-period
invariant-loop-period l = record {
  demanded : l.demanded ≡ sum_to (l.period - 1) (demand l.instance l.item);
  most : l.most ≡ greatest_to (l.period - 1) (must_arrive_in_time l.instance (start_in l.table) l.item);
  list : HasEachTo (l.period - 1) (λ t. greatest_to t (must_arrive_in_time l.instance (start_in l.table) l.item)) l.list.items;
}
