use Rattle.plan_rules.specs.Cells.{Fits}
use Rattle.heur_setup_lps.proofs.plunging.some_setups.Given as goal

abbrev pub invariant-loop-item : goal.invariant-loop-item
invariant-loop-item l = Fits l.instance l.setup
