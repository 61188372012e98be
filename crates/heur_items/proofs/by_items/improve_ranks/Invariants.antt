use Rattle.heur_items.specs.Improved.{IsNoDearer}
use Rattle.heur_items.proofs.by_items.improve_ranks.Given as goal

abbrev pub invariant-loop-step : goal.invariant-loop-step
invariant-loop-step l = IsNoDearer l.instance l.fn.best l.best
