use Rattle.lp_bounds.proofs.Plans.{floors, impossible}
use Rattle.lp_bounds.proofs.laws.base_bounds_are_floors.Goals as goal

pub returns-clause-bound : goal.returns-clause-bound
returns-clause-bound c = floors c.totals_are_bounded.ensures c.plans_cost.ensures

pub returns-clause-empty : goal.returns-clause-empty
returns-clause-empty c = impossible c.totals_are_bounded.ensures
