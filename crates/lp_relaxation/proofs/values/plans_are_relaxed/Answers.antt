use Rattle.lp_relaxation.proofs.Plans.{plans_are_relaxed}
use Rattle.lp_relaxation.proofs.values.plans_are_relaxed.Goals as goal

pub returns : goal.returns
returns c = plans_are_relaxed c.totals_are_bounded.ensures c.cuts_hold.ensures c.plans_cost.ensures
