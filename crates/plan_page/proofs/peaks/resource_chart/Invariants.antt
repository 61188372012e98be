use Rattle.std.proofs.Common.{◌≡◌, ◌-◌}
use Rattle.plan_rules.specs.Held.{plan_of}
use Rattle.plan_page.specs.Peaks.{load_at, max_to}
use Rattle.plan_page.proofs.peaks.resource_chart.Given as goal

-- the largest so far
abbrev pub invariant-loop-period : goal.invariant-loop-period
invariant-loop-period l = l.peak ≡ max_to (l.period - 1) (load_at l.instance (plan_of l.plan) l.resource)
