use Rattle.std.proofs.Common.{◌≡◌, ◌≤◌, ◌-◌}
use Rattle.lot_sizing.specs.Sums.{sum_to}
use Rattle.lot_sizing.specs.Problem.{entry}
use Rattle.echelon.specs.declared.net.TheConstants.{MAX_ASKED}
use Rattle.ls_cuts.proofs.demand.demand_to.Given as goal

abbrev pub invariant-loop-period : goal.invariant-loop-period
invariant-loop-period l = record {
  sum : l.sum ≡ sum_to (l.period - 1) (entry l.echelon.demand.items);
  small : l.sum ≤ MAX_ASKED;
}
