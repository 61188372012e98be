use Rattle.std.proofs.Common.{arith}
use Rattle.algebra.proofs.Order.{linear}
use Rattle.reduced_groups.proofs.Priced.{costs_bound}
use Rattle.reduced_groups.proofs.laws.reduced_costs_bound.Goals as goal

pub returns-clause-costs : goal.returns-clause-costs
returns-clause-costs c = λ m rows times den price signed columns reduced p f hold. costs_bound m price p f c.sums_bound.ensures.plans rows times den signed columns reduced hold

pub returns-clause-groups : goal.returns-clause-groups
returns-clause-groups c = λ m rank total known some ranks totals are rows times den price shapes amounts signed columns reduced apart is p f hold.
    omega (
      arith,
      linear,
      costs_bound m price p f c.sums_bound.ensures.plans rows times den signed columns reduced hold,
      c.groups_bound.ensures.bound m rank total known some ranks totals are price shapes amounts apart is p f,
    )
