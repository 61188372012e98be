-- Feasible plans, and those within ranges.
use Rattle.std.specs.Prelude.{ℕ}
use Rattle.lot_sizing.specs.Problem.{Problem}
use Rattle.lot_sizing.specs.Plan as terms
use Rattle.plan_rules.specs.declared.plan.Plan.{Plan}
use Rattle.plan_rules.specs.Held.{AllFit, plan_of}
use Rattle.cert_trees.specs.Ranges.{IsWithin, Ranges}

-- a feasible plan with a number for each item and period of the problem
pub record IsGoodPlan (m : Problem) (p : Plan) : Type 0 where
  pub fits : AllFit m p
  pub feasible : terms.IsFeasible m (plan_of p)

abbrev pub cost_of : Problem → Plan → ℕ
cost_of m p = terms.cost m (plan_of p)

-- a feasible plan with a number for each item and period of the problem, within the ranges
pub record IsGoodWithin (m : Problem) (ranges : Ranges) (p : Plan) : Type 0 where
  pub good : IsGoodPlan m p
  pub within : IsWithin m ranges (plan_of p)
