use Rattle.std.proofs.Common.{◌≡◌, ◌-◌, ◌++◌, string_bytes}
use Rattle.lot_sizing.specs.Texts.{join_to}
use Rattle.plan_rules.specs.Held.{plan_of}
use Rattle.plan_page.specs.Items.{stock_point}
use Rattle.plan_page.proofs.items.add_points.Given as goal

-- what is added so far
abbrev pub invariant-loop-period : goal.invariant-loop-period
invariant-loop-period l = string_bytes l.text ≡ string_bytes l.fn.text ++ join_to (l.period - 1) (stock_point l.chart (plan_of l.plan) l.item)
