use Rattle.std.proofs.Common.{refl}
use Rattle.plan_page.specs.Costs.{cost_back}
use Rattle.plan_page.proofs.costs.add_back.Goals as goal

pub returns : goal.returns
unfolding cost_back
returns c = rw c.in_ok-write.ensures.bytes refl
