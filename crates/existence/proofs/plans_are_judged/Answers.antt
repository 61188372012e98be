use Rattle.existence.proofs.Judging.{grids_judged, plans_judged}
use Rattle.existence.proofs.plans_are_judged.Goals as goal

pub returns-clause-plans : goal.returns-clause-plans
returns-clause-plans c = plans_judged

pub returns-clause-grids : goal.returns-clause-grids
returns-clause-grids c = grids_judged
