use Rattle.std.proofs.Common.{refl}
use Rattle.plan_page.specs.Items.{row_front}
use Rattle.plan_page.proofs.items.add_front.Goals as goal

pub returns : goal.returns
unfolding row_front
returns c = rw c.in_ok-write.ensures.bytes refl
