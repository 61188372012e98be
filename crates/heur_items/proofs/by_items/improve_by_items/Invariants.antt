use Rattle.heur_items.specs.Improved.{IsNoDearer}
use Rattle.heur_items.proofs.by_items.improve_by_items.Given as goal

abbrev pub invariant-loop-round : goal.invariant-loop-round
invariant-loop-round l = IsNoDearer l.instance l.fn.best l.best
