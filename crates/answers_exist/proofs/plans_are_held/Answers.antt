use Rattle.answers_exist.proofs.Grids.{held}
use Rattle.answers_exist.proofs.plans_are_held.Goals as goal

pub returns : goal.returns
returns c = held
