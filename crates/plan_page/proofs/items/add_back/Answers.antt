use Rattle.std.proofs.Common.{refl}
use Rattle.plan_page.specs.Items.{row_back}
use Rattle.plan_page.proofs.items.add_back.Goals as goal

pub returns : goal.returns
unfolding row_back
returns c = rw c.in_ok-write.ensures.bytes refl
