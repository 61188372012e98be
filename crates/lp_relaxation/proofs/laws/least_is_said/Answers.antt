use Rattle.lp_relaxation.proofs.Saying.{least_is_said}
use Rattle.lp_relaxation.proofs.laws.least_is_said.Goals as goal

pub returns : goal.returns
returns c = least_is_said c.sums_bound.ensures.points c.sums_refute.ensures c.leaves_prove.ensures
