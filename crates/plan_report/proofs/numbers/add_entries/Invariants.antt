use Rattle.std.proofs.Common.{◌≡◌, ◌-◌, ◌++◌, string_bytes}
use Rattle.lot_sizing.specs.Texts.{join_to}
use Rattle.plan_rules.specs.Held.{plan_of}
use Rattle.plan_report.specs.Numbers.{list_entry}
use Rattle.plan_report.proofs.numbers.add_entries.Given as goal

-- the entries so far
abbrev pub invariant-loop-period : goal.invariant-loop-period
invariant-loop-period l = string_bytes l.text ≡ string_bytes l.fn.text ++ join_to (l.period - 1) (list_entry l.instance (plan_of l.plan) l.series l.row)
