use Rattle.std.proofs.Common.{append_assoc}
use Rattle.plan_report.specs.Tables.{head_line}
use Rattle.plan_report.proofs.tables.add_head.Goals as goal

pub returns : goal.returns
unfolding head_line
returns c = rw (c.in_ok-push_str.ensures.bytes, c.in_ok-add_head_cells.ensures, c.in_ok-add_at_left.ensures, c.title_of-title.ensures) (simp append_assoc)
