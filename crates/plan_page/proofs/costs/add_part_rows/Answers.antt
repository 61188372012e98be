use Rattle.std.proofs.Common.{append_assoc}
use Rattle.plan_page.specs.Costs.{part_rows}
use Rattle.plan_page.proofs.costs.add_part_rows.Goals as goal

pub returns : goal.returns
unfolding part_rows
returns c = rw (c.in_ok-push_str-2.ensures.bytes, c.in_ok-add_part_row-5.ensures, c.in_ok-add_part_row-4.ensures, c.in_ok-add_part_row-3.ensures, c.in_ok-add_part_row-2.ensures, c.in_ok-add_part_row.ensures, c.in_ok-push_str.ensures.bytes) (simp append_assoc)
