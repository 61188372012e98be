use Rattle.lin_rows.proofs.Objective.{plan_costs}
use Rattle.lin_rows.proofs.laws.plans_cost.Goals as goal

pub returns : goal.returns
returns c = plan_costs
