use Rattle.plan_rules.specs.Cells.{Fits}
use Rattle.heur_lags.proofs.planning.put_rows.Given as goal

abbrev pub invariant-loop-item : goal.invariant-loop-item
invariant-loop-item l = record {
  make : Fits l.instance l.make;
  setup : Fits l.instance l.setup;
}
