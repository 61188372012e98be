-- Plans that are improved.
use Rattle.std.specs.Prelude.{◌≤◌}
use Rattle.lot_sizing.specs.Problem.{Problem}
use Rattle.plan_rules.specs.declared.plan.Planned.{Planned}
use Rattle.own_plan.specs.Made.{IsMade}

-- a feasible plan that costs no more than another one
pub record IsNoDearer (m : Problem) (old new : Planned) : Type 0 where
  pub made : IsMade m new
  pub cheap : new.cost ≤ old.cost
