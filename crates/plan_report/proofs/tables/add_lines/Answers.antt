use Rattle.std.proofs.Common.{append_assoc}
use Rattle.plan_report.specs.Tables.{table_of_widths}
use Rattle.plan_report.proofs.tables.add_lines.Goals as goal

pub returns : goal.returns
unfolding table_of_widths
returns c = rw (c.in_ok-push_str.ensures.bytes, c.in_ok-add_rows.ensures, c.in_ok-add_head.ensures) (simp append_assoc)
