use Rattle.std.proofs.Common.{append_assoc}
use Rattle.plan_report.specs.Tables.{row_line}
use Rattle.plan_report.proofs.tables.add_row.Goals as goal

pub returns : goal.returns
unfolding row_line
returns c = rw (c.in_ok-push_str.ensures.bytes, c.in_ok-add_row_cells.ensures, c.in_ok-add_at_left.ensures, c.row_name-name.ensures) (simp append_assoc)
