use Rattle.std.proofs.Common.{◌≡◌, ◌-◌}
use Rattle.plan_rules.specs.Held.{plan_of}
use Rattle.plan_report.specs.Widths.{max_to}
use Rattle.plan_report.proofs.tables.item_backlog.Given as goal

-- the largest so far
abbrev pub invariant-loop-period : goal.invariant-loop-period
invariant-loop-period l = l.largest ≡ max_to (l.period - 1) ((plan_of l.plan).backlog l.item)
