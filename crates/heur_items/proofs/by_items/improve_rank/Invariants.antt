use Rattle.heur_items.specs.Improved.{IsNoDearer}
use Rattle.heur_items.proofs.by_items.improve_rank.Given as goal

abbrev pub invariant-loop-item : goal.invariant-loop-item
invariant-loop-item l = IsNoDearer l.instance l.fn.best l.best
