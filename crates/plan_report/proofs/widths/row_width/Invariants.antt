use Rattle.std.proofs.Common.{◌≡◌, ◌-◌, length}
use Rattle.plan_rules.specs.Held.{plan_of}
use Rattle.plan_report.specs.Widths.{cell_text, max_to}
use Rattle.plan_report.proofs.widths.row_width.Given as goal

-- the widest so far
abbrev pub invariant-loop-period : goal.invariant-loop-period
invariant-loop-period l = l.widest ≡ max_to (l.period - 1) (λ t. length (cell_text l.instance (plan_of l.plan) l.series l.row t))
