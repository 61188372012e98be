use Rattle.std.proofs.Common.{refl}
use Rattle.plan_page.specs.Resources.{resource_head}
use Rattle.plan_page.proofs.resources.add_head.Goals as goal

pub returns : goal.returns
unfolding resource_head
returns c = rw (c.in_ok-write.ensures.bytes, c.resource_name-name.ensures.value) refl
