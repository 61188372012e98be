use Rattle.lp_bounds.proofs.Plans.{are_one, cells_are_one}
use Rattle.lp_bounds.proofs.laws.base_bounds_are_one.Goals as goal

pub returns-clause-bound : goal.returns-clause-bound
returns-clause-bound c = are_one

pub returns-clause-cells : goal.returns-clause-cells
returns-clause-cells c = cells_are_one
