use Rattle.std.proofs.Common.{append_assoc}
use Rattle.plan_page.specs.Items.{item_row}
use Rattle.plan_page.proofs.items.add_row.Goals as goal

pub returns : goal.returns
unfolding item_row
returns c = rw (c.in_ok-add_back.ensures, c.in_ok-add_front.ensures) (simp append_assoc)
