use Rattle.lp_relaxation.proofs.Plans.{is_one}
use Rattle.lp_relaxation.proofs.values.closed_values_are_one.Goals as goal

pub returns : goal.returns
returns c = is_one
