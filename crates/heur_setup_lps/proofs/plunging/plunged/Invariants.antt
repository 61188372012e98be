use Rattle.heur_setup_lps.specs.Plunging.{HasShape}
use Rattle.heur_setup_lps.proofs.plunging.plunged.Given as goal

abbrev pub invariant-loop-node : goal.invariant-loop-node
invariant-loop-node l = HasShape l.instance l.dive
