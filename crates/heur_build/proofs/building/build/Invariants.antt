use Rattle.heur_build.specs.Construction.{HasShape}
use Rattle.heur_build.proofs.building.build.Given as goal

abbrev pub invariant-loop-back : goal.invariant-loop-back
invariant-loop-back l = HasShape l.instance l.built
