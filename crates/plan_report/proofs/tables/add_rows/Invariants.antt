use Rattle.std.proofs.Common.{◌≡◌, ◌-◌, ◌++◌, string_bytes}
use Rattle.lot_sizing.specs.Texts.{join_to}
use Rattle.plan_rules.specs.Held.{plan_of}
use Rattle.plan_report.specs.Tables.{row_line}
use Rattle.plan_report.proofs.tables.add_rows.Given as goal

-- the lines so far
abbrev pub invariant-loop-row : goal.invariant-loop-row
invariant-loop-row l = string_bytes l.text ≡ string_bytes l.fn.text ++ join_to (l.row - 1) (row_line l.widths.labels l.widths.numbers l.shown.instance.now (plan_of l.shown.plan.now) l.shown.series)
