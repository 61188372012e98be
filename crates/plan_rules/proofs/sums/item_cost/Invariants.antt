use Rattle.plan_rules.specs.Held.{most_cost_at}
use Rattle.std.proofs.Common.{◌≡◌, ◌≤◌, ◌-◌, ◌*◌}
use Rattle.lot_sizing.specs.Sums.{sum_to}
use Rattle.lot_sizing.specs.Plan.{cost_at}
use Rattle.plan_rules.specs.Held.{plan_of}
use Rattle.plan_rules.proofs.sums.item_cost.Given as goal

abbrev pub invariant-loop-period : goal.invariant-loop-period
invariant-loop-period l = record {
  total : l.total ≡ sum_to (l.period - 1) (λ t. cost_at l.instance (plan_of l.plan) l.item t);
  small : l.total ≤ (l.period - 1) * most_cost_at;
}
