use Rattle.std.proofs.Common.{refl}
use Rattle.plan_page.specs.Costs.{cost_front}
use Rattle.plan_page.proofs.costs.add_front.Goals as goal

pub returns : goal.returns
unfolding cost_front
returns c = rw c.in_ok-write.ensures.bytes refl
