use Rattle.std.proofs.Common.{◌≡◌, ◌-◌, ◌++◌, string_bytes}
use Rattle.lot_sizing.specs.Texts.{join_to}
use Rattle.plan_page.specs.Loads.{capacity_step}
use Rattle.plan_page.proofs.loads.add_steps.Given as goal

-- what is added so far
abbrev pub invariant-loop-period : goal.invariant-loop-period
invariant-loop-period l = string_bytes l.text ≡ string_bytes l.fn.text ++ join_to (l.period - 1) (capacity_step l.chart l.instance l.resource)
