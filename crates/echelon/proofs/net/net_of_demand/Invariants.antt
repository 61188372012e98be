use Rattle.std.proofs.Common.{◌≡◌, ◌≤◌, ◌-◌, length}
use Rattle.lot_sizing.specs.Sums.{sum_to}
use Rattle.lot_sizing.specs.Problem.{entry}
use Rattle.lot_sizing.specs.Net.{left_after, needed_to, net_in}
use Rattle.echelon.specs.Views.{HasEach, asked_in}
use Rattle.echelon.proofs.net.net_of_demand.Given as goal

abbrev pub invariant-loop-period : goal.invariant-loop-period
invariant-loop-period l =
    let a = asked_in l.demands l.opening l.end_min in
    record {
      demand : l.demand ≡ sum_to (l.period - 1) (entry l.demands);
      made : l.period ≤ length l.demands → l.made ≡ needed_to a (l.period - 1);
      net : HasEach (l.period - 1) (net_in a) l.net.items;
      left : HasEach (l.period - 1) (left_after a) l.left.items;
    }
