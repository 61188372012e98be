use Rattle.std.proofs.Common.{◌≡◌, ◌≤◌, ◌+◌, ◌-◌, ◌*◌, ◌^◌}
use Rattle.lot_sizing.specs.Sums.{sum_to}
use Rattle.lot_sizing.specs.Problem.{unit_cost, setup_cost, hold_cost, backlog_cost}
use Rattle.plan_rules.specs.Held.{most_cost_at, plan_of}
use Rattle.report.proofs.summing.item_totals.Given as goal

-- the totals of the periods so far, and how large they can be
abbrev pub invariant-loop-period : goal.invariant-loop-period
invariant-loop-period l = record {
  backlog : l.totals.backlog ≡ sum_to (l.period - 1) (λ t. backlog_cost l.instance l.item t * (plan_of l.plan).backlog l.item t);
  hold : l.totals.hold ≡ sum_to (l.period - 1) (λ t. hold_cost l.instance l.item t * (plan_of l.plan).stock l.item t);
  made : l.totals.made ≡ sum_to (l.period - 1) ((plan_of l.plan).make l.item);
  setup : l.totals.setup ≡ sum_to (l.period - 1) (λ t. setup_cost l.instance l.item t * (plan_of l.plan).setup l.item t);
  setups : l.totals.setups ≡ sum_to (l.period - 1) ((plan_of l.plan).setup l.item);
  unit : l.totals.unit ≡ sum_to (l.period - 1) (λ t. unit_cost l.instance l.item t * (plan_of l.plan).make l.item t);
  small : l.totals.unit + l.totals.setup + l.totals.hold + l.totals.backlog ≤ (l.period - 1) * most_cost_at;
  few : l.totals.made + l.totals.setups ≤ (l.period - 1) * (2 * 2 ^ 64);
}
