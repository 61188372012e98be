use Rattle.std.proofs.Common.{◌≡◌, ◌≤◌, ◌*◌, ◌^◌, ◌-◌}
use Rattle.lot_sizing.specs.Sums.{sum_to}
use Rattle.lot_sizing.specs.Problem.{entry}
use Rattle.wagner_whitin.specs.Tables.{AreSums}
use Rattle.wagner_whitin.proofs.cost_sums.sums.Given as goal

abbrev pub invariant-loop-period : goal.invariant-loop-period
invariant-loop-period l = record {
  table : AreSums (l.period - 1) (entry l.costs) l.sums.items;
  sum : l.sum ≡ sum_to (l.period - 1) (entry l.costs);
  small : l.sum ≤ (l.period - 1) * 10 ^ 9;
}
