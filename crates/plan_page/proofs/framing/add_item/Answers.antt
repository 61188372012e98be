use Rattle.std.proofs.Common.{refl}
use Rattle.plan_page.specs.Framing.{item_link}
use Rattle.plan_page.proofs.framing.add_item.Goals as goal

pub returns : goal.returns
unfolding item_link
returns c = rw (c.in_ok-write.ensures.bytes, c.item_name-name.ensures.value) refl
