use Rattle.std.proofs.Common.{◌≡◌, ◌≤◌, ◌-◌, ◌*◌}
use Rattle.lot_sizing.specs.declared.limits.TheConstants.{MAX_AMOUNT}
use Rattle.lot_sizing.specs.Sums.{sum_to}
use Rattle.lot_sizing.specs.Problem.{demand}
use Rattle.uncoupled.proofs.room.demand_in_all.Given as goal

abbrev pub invariant-loop-period : goal.invariant-loop-period
invariant-loop-period l = record {
  sum : l.sum ≡ sum_to (l.period - 1) (demand l.instance l.item);
  small : l.sum ≤ (l.period - 1) * MAX_AMOUNT;
}
