use Rattle.heur_build.specs.Construction.{HasShape}
use Rattle.heur_build.proofs.lots.set_lots.Given as goal

abbrev pub invariant-loop-rank : goal.invariant-loop-rank
invariant-loop-rank l = HasShape l.instance l.built
