use Rattle.plan_rules.specs.Cells.{Fits}
use Rattle.heur_build.proofs.patterns.wanted_apart.Given as goal

abbrev pub invariant-loop-rank : goal.invariant-loop-rank
invariant-loop-rank l = record {
  make : Fits l.instance l.make;
  wanted : Fits l.instance l.wanted;
}
