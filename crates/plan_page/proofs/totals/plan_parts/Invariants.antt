use Rattle.std.proofs.Common.{◌≡◌, ◌≤◌, ◌+◌, ◌-◌, ◌*◌, ◌^◌}
use Rattle.lot_sizing.specs.Sums.{sum_to}
use Rattle.plan_rules.specs.Held.{plan_of}
use Rattle.report.specs.Summary.{backlog_part, hold_part, setup_part, unit_part}
use Rattle.plan_page.proofs.totals.plan_parts.Given as goal

-- the totals of the items so far, and how large they can be
abbrev pub invariant-loop-item : goal.invariant-loop-item
invariant-loop-item l = record {
  unit : l.total.unit ≡ sum_to (l.item - 1) (unit_part l.instance (plan_of l.plan));
  setup : l.total.setup ≡ sum_to (l.item - 1) (setup_part l.instance (plan_of l.plan));
  hold : l.total.hold ≡ sum_to (l.item - 1) (hold_part l.instance (plan_of l.plan));
  backlog : l.total.backlog ≡ sum_to (l.item - 1) (backlog_part l.instance (plan_of l.plan));
  small : l.total.unit + l.total.setup + l.total.hold + l.total.backlog ≤ (l.item - 1) * 2 ^ 104;
}
