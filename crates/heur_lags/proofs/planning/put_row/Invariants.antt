use Rattle.plan_rules.specs.Cells.{Fits}
use Rattle.heur_lags.proofs.planning.put_row.Given as goal

abbrev pub invariant-loop-period : goal.invariant-loop-period
invariant-loop-period l = record {
  make : Fits l.instance l.make;
  setup : Fits l.instance l.setup;
}
