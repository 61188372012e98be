use Rattle.std.proofs.Common.{append_assoc}
use Rattle.plan_page.specs.Cells.{room_mark}
use Rattle.plan_page.proofs.cells.add_room.Goals as goal

pub returns : goal.returns
unfolding room_mark
returns c = rw (c.in_ok-write.ensures.bytes, c.in_ok-add_bar.ensures, c.left_of.ensures.value) (simp append_assoc)
