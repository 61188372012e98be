-- Lots of all items.
use Rattle.lot_sizing.specs.Problem.{Problem}
use Rattle.plan_rules.specs.Cells.{Fits}
use Rattle.first_plans.specs.declared.families.Lots.{Lots}

-- there is a quantity and a setup for each item and period
pub record AreLots (m : Problem) (lots : Lots) : Type 0 where
  pub make : Fits m lots.make.now
  pub setup : Fits m lots.setup.now
