use Rattle.std.proofs.Common.{refl}
use Rattle.plan_page.specs.Resources.{swatch}
use Rattle.plan_page.proofs.resources.add_swatch.Goals as goal

pub returns : goal.returns
unfolding swatch
returns c = rw c.in_ok-write.ensures.bytes refl
