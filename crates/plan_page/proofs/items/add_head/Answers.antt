use Rattle.std.proofs.Common.{refl}
use Rattle.plan_page.specs.Items.{item_head}
use Rattle.plan_page.proofs.items.add_head.Goals as goal

pub returns : goal.returns
unfolding item_head
returns c = rw (c.in_ok-write.ensures.bytes, c.item_name-name.ensures.value) refl
