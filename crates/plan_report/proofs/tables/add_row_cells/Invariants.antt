use Rattle.std.proofs.Common.{◌≡◌, ◌-◌, ◌++◌, string_bytes}
use Rattle.lot_sizing.specs.Texts.{join_to}
use Rattle.plan_rules.specs.Held.{plan_of}
use Rattle.plan_report.specs.Tables.{row_cell}
use Rattle.plan_report.proofs.tables.add_row_cells.Given as goal

-- the cells so far
abbrev pub invariant-loop-period : goal.invariant-loop-period
invariant-loop-period l = string_bytes l.text ≡ string_bytes l.fn.text ++ join_to (l.period - 1) (row_cell l.width l.shown.instance.now (plan_of l.shown.plan.now) l.shown.series l.row)
