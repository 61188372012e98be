use Rattle.heur_build.specs.Construction.{HasShape}
use Rattle.heur_build.proofs.lots.settle.Given as goal

abbrev pub invariant-loop-item : goal.invariant-loop-item
invariant-loop-item l = HasShape l.instance l.built
