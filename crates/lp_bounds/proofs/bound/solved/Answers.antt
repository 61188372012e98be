use Rattle.std.proofs.Common.{subst}
use Rattle.tableau.specs.Outcomes.{IsCertain, number_at}
use Rattle.lp_bounds.proofs.bound.solved.Goals as goal

pub returns-in-Least : goal.returns-in-Least
returns-in-Least c = record {
  point = number_at c.in-Least.point.items;
  multipliers = number_at c.in-Least.multipliers.items;
  value = c.in-Least.value;
  best = subst (IsCertain c.args.lp.now) c.in-Least.is c.in_ok-value.ensures.certain;
  amount = c.rounded_up.ensures;
}

pub returns-in-Empty : goal.returns-in-Empty
returns-in-Empty c = (number_at c.in-Empty.multipliers.items, subst (IsCertain c.args.lp.now) c.in-Empty.is c.in_ok-value.ensures.certain)
