use Rattle.std.proofs.Common.{append_assoc}
use Rattle.plan_report.specs.Tables.{table_text}
use Rattle.plan_report.proofs.tables.add_tables.Goals as goal

pub returns : goal.returns
unfolding table_text
returns c = rw (c.in_ok-add_cost.ensures, c.in_ok-add_loads.ensures, c.in_ok-add_backlogs.ensures, c.in_ok-add_table-2.ensures, c.in_ok-add_table.ensures) (simp append_assoc)
