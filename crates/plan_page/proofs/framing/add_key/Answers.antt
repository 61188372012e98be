use Rattle.std.proofs.Common.{refl}
use Rattle.plan_page.specs.Framing.{key_line}
use Rattle.plan_page.proofs.framing.add_key.Goals as goal

pub returns : goal.returns
unfolding key_line
returns c = rw (c.in_ok-write.ensures.bytes, c.items-items.ensures.value, c.resources-resources.ensures.value, c.periods-periods.ensures.value) refl
