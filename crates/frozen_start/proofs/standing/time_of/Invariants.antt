use Rattle.lot_sizing.specs.declared.limits.TheConstants.{MAX_AMOUNT, MAX_RESOURCES}
use Rattle.std.proofs.Common.{◌≡◌, ◌≤◌, ◌+◌, ◌-◌, ◌*◌, ◌^◌}
use Rattle.lot_sizing.specs.Sums.{sum_to}
use Rattle.lot_sizing.specs.Problem.{unit_time, setup_time}
use Rattle.plan_rules.specs.Cells.{table_of}
use Rattle.frozen_start.proofs.standing.time_of.Given as goal

abbrev pub invariant-loop-item : goal.invariant-loop-item
invariant-loop-item l = record {
  total : l.total ≡ sum_to (l.item - 1) (λ i. unit_time l.instance i l.resource * table_of l.make i l.period + setup_time l.instance i l.resource * table_of l.setup i l.period);
  small : l.total ≤ (l.item - 1) * (2 * (MAX_RESOURCES * MAX_AMOUNT * 2 ^ 64));
}
