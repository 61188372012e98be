use Rattle.lot_sizing.specs.Problem.{Problem}
use Rattle.heur_setup_lps.specs.Plunging.{HasShape}
use Rattle.heur_setup_lps.proofs.plunging.go_back.Given as goal

abbrev pub invariant-loop-step : goal.invariant-loop-step
invariant-loop-step l = (m : Problem) → HasShape m l.fn.dive → HasShape m l.dive
