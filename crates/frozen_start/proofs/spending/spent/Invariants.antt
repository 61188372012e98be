use Rattle.std.proofs.Common.{◌≡◌, ◌≤◌, ◌-◌, ◌*◌}
use Rattle.lot_sizing.specs.declared.limits.TheConstants.{MAX_PERIODS}
use Rattle.lot_sizing.specs.Sums.{sum_to}
use Rattle.lot_sizing.specs.Plan.{cost_at}
use Rattle.lot_sizing.specs.Least.{least_plan}
use Rattle.plan_rules.specs.Cells.{table_of}
use Rattle.frozen_start.specs.Held.{most_start_cost}
use Rattle.frozen_start.proofs.spending.spent.Given as goal

abbrev pub invariant-loop-item : goal.invariant-loop-item
invariant-loop-item l = record {
  total : l.total ≡ sum_to (l.item - 1) (λ i. sum_to l.first (λ t. cost_at l.instance (least_plan l.instance (table_of l.make) (table_of l.setup)) i t));
  small : l.total ≤ (l.item - 1) * (MAX_PERIODS * most_start_cost);
}
