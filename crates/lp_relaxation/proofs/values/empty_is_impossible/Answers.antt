use Rattle.lp_relaxation.proofs.Plans.{impossible}
use Rattle.lp_relaxation.proofs.values.empty_is_impossible.Goals as goal

pub returns : goal.returns
returns c = impossible c.plans_are_relaxed.ensures
