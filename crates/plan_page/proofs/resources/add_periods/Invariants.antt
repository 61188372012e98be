use Rattle.std.proofs.Common.{◌≡◌, ◌-◌, ◌++◌, string_bytes}
use Rattle.lot_sizing.specs.Texts.{join_to}
use Rattle.plan_rules.specs.Held.{plan_of}
use Rattle.plan_page.specs.Loads.{period_loads}
use Rattle.plan_page.proofs.resources.add_periods.Given as goal

-- what is added so far
abbrev pub invariant-loop-period : goal.invariant-loop-period
invariant-loop-period l = string_bytes l.text ≡ string_bytes l.fn.text ++ join_to (l.period - 1) (period_loads l.chart l.instance (plan_of l.plan) l.resource)
