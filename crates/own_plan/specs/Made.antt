-- Plans that were made, with their costs.
use Rattle.std.specs.Prelude.{◌≡◌, ◌<◌, ◌^◌}
use Rattle.lot_sizing.specs.Problem.{Problem}
use Rattle.lot_sizing.specs.Plan.{Plan, IsFeasible, cost}
use Rattle.plan_rules.specs.Held.{AllFit, plan_of}
use Rattle.plan_rules.specs.declared.plan.Planned.{Planned}
use Rattle.own_plan.specs.OwnPeriod.{IsOwnPeriod}

-- a feasible plan with an entry for each item and period, and what it costs
pub record IsMade (m : Problem) (made : Planned) : Type 0 where
  pub fits : AllFit m made.plan
  pub feasible : IsFeasible m (plan_of made.plan)
  pub cost : made.cost ≡ cost m (plan_of made.plan)
  pub small : made.cost < 2 ^ 127

-- it costs what each own-period plan costs, of which there is one
abbrev pub CostsAsOwn : Problem → Planned → Type 0
CostsAsOwn m made = (q : Plan) → IsOwnPeriod m q → made.cost ≡ cost m q
