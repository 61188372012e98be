use Rattle.std.proofs.Common.{◌≡◌, ◌-◌}
use Rattle.plan_rules.specs.Held.{plan_of}
use Rattle.plan_report.specs.Widths.{max_to}
use Rattle.plan_report.proofs.tables.largest_backlog.Given as goal

-- the largest so far
abbrev pub invariant-loop-item : goal.invariant-loop-item
invariant-loop-item l = l.largest ≡ max_to (l.item - 1) (λ i. max_to l.instance.periods ((plan_of l.plan).backlog i))
