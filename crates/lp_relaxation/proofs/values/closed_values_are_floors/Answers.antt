use Rattle.lp_relaxation.proofs.Plans.{floors}
use Rattle.lp_relaxation.proofs.values.closed_values_are_floors.Goals as goal

pub returns : goal.returns
returns c = floors c.plans_are_relaxed.ensures
