use Rattle.plan_rules.specs.Cells.{Fits}
use Rattle.heur_build.proofs.patterns.want_rank.Given as goal

abbrev pub invariant-loop-item : goal.invariant-loop-item
invariant-loop-item l = record {
  make : Fits l.instance l.make;
  wanted : Fits l.instance l.wanted;
}
