use Rattle.std.proofs.Common.{◌≡◌, ◌≤◌, ◌+◌, ◌-◌, ◌*◌, ◌^◌}
use Rattle.lot_sizing.specs.Sums.{sum_to}
use Rattle.lot_sizing.specs.Problem.{entry}
use Rattle.lot_sizing.specs.declared.limits.TheConstants.{MAX_AMOUNT}
use Rattle.lot_model.proofs.totals.most_asked.Given as goal

abbrev pub invariant-loop-period : goal.invariant-loop-period
invariant-loop-period l = record {
  total : l.sum ≡ l.item.end_max + sum_to (l.period - 1) (entry l.item.demand);
  small : l.sum ≤ (l.period + 1) * MAX_AMOUNT;
}
