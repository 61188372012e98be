use Rattle.std.proofs.Common.{◌≡◌, ◌≤◌, ◌-◌, ◌*◌}
use Rattle.lot_sizing.specs.Sums.{sum_to}
use Rattle.lot_sizing.specs.Plan.{cost_at}
use Rattle.lot_sizing.specs.Least.{least_plan}
use Rattle.plan_rules.specs.Cells.{table_of}
use Rattle.frozen_start.specs.Held.{AreFlows, most_start_cost}
use Rattle.frozen_start.proofs.spending.item_spent.Given as goal

abbrev pub invariant-loop-period : goal.invariant-loop-period
invariant-loop-period l = record {
  total : l.total ≡ sum_to (l.period - 1) (λ t. cost_at l.instance (least_plan l.instance (table_of l.make) (table_of l.setup)) l.item t);
  flows : AreFlows l.instance (table_of l.make) l.item (l.period - 1) l.flows;
  small : l.total ≤ (l.period - 1) * most_start_cost;
}
