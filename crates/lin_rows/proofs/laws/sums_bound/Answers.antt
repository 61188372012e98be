use Rattle.lin_rows.proofs.Bounding.{sums_bound_at, sums_bound_plans}
use Rattle.lin_rows.proofs.laws.sums_bound.Goals as goal

pub returns-clause-points : goal.returns-clause-points
returns-clause-points c = sums_bound_at

pub returns-clause-plans : goal.returns-clause-plans
returns-clause-plans c = sums_bound_plans
