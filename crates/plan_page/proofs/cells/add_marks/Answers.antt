use Rattle.std.proofs.Common.{append_assoc}
use Rattle.plan_page.specs.Cells.{cell_marks}
use Rattle.plan_page.proofs.cells.add_marks.Goals as goal

pub returns : goal.returns
unfolding cell_marks
returns c = rw (c.in_ok-add_stock.ensures, c.in_ok-add_late.ensures, c.in_ok-add_idle.ensures, c.in_ok-add_use.ensures, c.in_ok-add_demand.ensures, c.in_ok-add_lot.ensures, c.in_ok-add_room.ensures) (simp append_assoc)
