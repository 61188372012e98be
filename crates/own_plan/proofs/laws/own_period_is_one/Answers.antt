use Rattle.own_plan.proofs.Own.{own_is_one}
use Rattle.own_plan.proofs.laws.own_period_is_one.Goals as goal

pub returns : goal.returns
returns c = own_is_one
