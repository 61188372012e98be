use Rattle.existence.proofs.Choices.{plans_decided}
use Rattle.existence.proofs.plans_are_decided.Goals as goal

pub returns : goal.returns
returns c = plans_decided (record { exist = c.totals_exist.ensures.totals; totals = c.totals_are_bounded.ensures; least = c.least_stocks_are_best.ensures })
