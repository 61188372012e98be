use Rattle.std.specs.Prelude.{IfSome}
use Rattle.heur_build.specs.Relief.{IsMove}
use Rattle.heur_build.proofs.relief.cheapest_move.Given as goal

abbrev pub invariant-loop-item : goal.invariant-loop-item
invariant-loop-item l = IfSome l.best (IsMove l.instance)
