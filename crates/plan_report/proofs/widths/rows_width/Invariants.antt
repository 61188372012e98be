use Rattle.std.proofs.Common.{◌≡◌, ◌-◌}
use Rattle.plan_rules.specs.Held.{plan_of}
use Rattle.plan_report.specs.Widths.{max_to, row_width}
use Rattle.plan_report.proofs.widths.rows_width.Given as goal

-- the widest so far
abbrev pub invariant-loop-row : goal.invariant-loop-row
invariant-loop-row l = l.widest ≡ max_to (l.row - 1) (row_width l.instance (plan_of l.plan) l.series)
