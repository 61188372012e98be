use Rattle.lot_sizing.specs.declared.limits.TheConstants.{MAX_PERIODS}
use Rattle.plan_rules.specs.Held.{most_cost_at}
use Rattle.std.proofs.Common.{◌≡◌, ◌≤◌, ◌-◌, ◌*◌}
use Rattle.lot_sizing.specs.Sums.{sum_to}
use Rattle.lot_sizing.specs.Plan.{cost_at}
use Rattle.plan_rules.specs.Held.{plan_of}
use Rattle.plan_rules.proofs.sums.cost.Given as goal

abbrev pub invariant-loop-item : goal.invariant-loop-item
invariant-loop-item l = record {
  total : l.total ≡ sum_to (l.item - 1) (λ i. sum_to l.instance.periods (λ t. cost_at l.instance (plan_of l.plan) i t));
  small : l.total ≤ (l.item - 1) * (MAX_PERIODS * most_cost_at);
}
