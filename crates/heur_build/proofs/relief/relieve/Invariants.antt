use Rattle.heur_build.specs.Construction.{HasShape}
use Rattle.heur_build.proofs.relief.relieve.Given as goal

abbrev pub invariant-loop-round : goal.invariant-loop-round
invariant-loop-round l = HasShape l.instance l.built
