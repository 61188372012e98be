use Rattle.std.proofs.Common.{◌≡◌, ◌-◌, decimal, length}
use Rattle.plan_report.specs.Widths.{max_to}
use Rattle.plan_report.proofs.widths.head_width.Given as goal

-- the widest so far
abbrev pub invariant-loop-period : goal.invariant-loop-period
invariant-loop-period l = l.widest ≡ max_to (l.period-counter - 1) (λ t. length (decimal t))
