use Rattle.std.specs.Prelude.{IfSome}
use Rattle.own_plan.specs.Made.{IsMade}
use Rattle.heur_setup_walks.proofs.walking.walk.Given as goal

abbrev pub invariant-loop-step : goal.invariant-loop-step
invariant-loop-step l = IfSome l.best (IsMade l.instance)
