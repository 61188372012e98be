use Rattle.std.proofs.Common.{◌≡◌, ◌≤◌, ◌+◌, ◌-◌, ◌*◌}
use Rattle.lot_sizing.specs.Sums.{sum_to}
use Rattle.lot_sizing.specs.Problem.{unit_cost, setup_cost, hold_cost, backlog_cost}
use Rattle.plan_rules.specs.Held.{most_cost_at, plan_of}
use Rattle.plan_page.proofs.totals.item_parts.Given as goal

-- the totals of the periods so far, and how large they can be
abbrev pub invariant-loop-period : goal.invariant-loop-period
invariant-loop-period l = record {
  unit : l.total.unit ≡ sum_to (l.period - 1) (λ t. unit_cost l.instance l.item t * (plan_of l.plan).make l.item t);
  setup : l.total.setup ≡ sum_to (l.period - 1) (λ t. setup_cost l.instance l.item t * (plan_of l.plan).setup l.item t);
  hold : l.total.hold ≡ sum_to (l.period - 1) (λ t. hold_cost l.instance l.item t * (plan_of l.plan).stock l.item t);
  backlog : l.total.backlog ≡ sum_to (l.period - 1) (λ t. backlog_cost l.instance l.item t * (plan_of l.plan).backlog l.item t);
  small : l.total.unit + l.total.setup + l.total.hold + l.total.backlog ≤ (l.period - 1) * most_cost_at;
}
