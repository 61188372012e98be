-- A plan while it is built.
use Rattle.std.specs.Prelude.{◌≡◌, length}
use Rattle.lot_sizing.specs.Problem.{Problem, item_count}
use Rattle.plan_rules.specs.Cells.{Fits}
use Rattle.heur_build.specs.declared.construction.Construction.{Construction}

-- the grids have the problem's items and periods, and the lists its items
pub record HasShape (m : Problem) (built : Construction) : Type 0 where
  pub make : Fits m built.make
  pub setup : Fits m built.setup
  pub earlier : Fits m built.earlier
  pub left : length built.left.items ≡ item_count m
  pub carried : length built.carried.items ≡ item_count m
  pub limit : length built.limit.items ≡ item_count m
