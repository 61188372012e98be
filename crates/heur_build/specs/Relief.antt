-- Moves of lots to an earlier period.
use Rattle.std.specs.Prelude.{◌≤◌}
use Rattle.lot_sizing.specs.Problem.{Problem, item_count}
use Rattle.heur_build.specs.declared.relief.Move.{Move}

-- it is of an item of the problem
pub record IsMove (m : Problem) (a : Move) : Type 0 where
  pub low : 1 ≤ a.item
  pub high : a.item ≤ item_count m
