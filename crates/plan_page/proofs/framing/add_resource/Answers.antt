use Rattle.std.proofs.Common.{refl}
use Rattle.plan_page.specs.Framing.{resource_link}
use Rattle.plan_page.proofs.framing.add_resource.Goals as goal

pub returns : goal.returns
unfolding resource_link
returns c = rw (c.in_ok-write.ensures.bytes, c.resource_name-name.ensures.value) refl
