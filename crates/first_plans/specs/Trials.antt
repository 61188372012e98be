-- Changes of the wanted setups that are tried.
use Rattle.std.specs.Prelude.{◌≤◌}
use Rattle.lot_sizing.specs.Problem.{Problem, item_count}
use Rattle.plan_rules.specs.Cells.{Fits}
use Rattle.first_plans.specs.Made.{IsMade}
use Rattle.first_plans.specs.declared.improving.Improving.{Improving}
use Rattle.first_plans.specs.declared.trials.Trial.{Trial}

-- it is of an item and of periods of the problem
pub record IsTrial (m : Problem) (a : Trial) : Type 0 where
  pub low : 1 ≤ a.item
  pub high : a.item ≤ item_count m
  pub from_low : 1 ≤ a.from
  pub from_high : a.from ≤ m.periods
  pub to_low : 1 ≤ a.to
  pub to_high : a.to ≤ m.periods

-- the best plan so far is feasible
pub record IsImproving (m : Problem) (state : Improving) : Type 0 where
  pub wanted : Fits m state.wanted
  pub best : IsMade m state.best

-- and costs no more than the one before
pub record IsImproved (m : Problem) (old new : Improving) : Type 0 where
  pub state : IsImproving m new
  pub cheap : new.best.cost ≤ old.best.cost
