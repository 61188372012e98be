use Rattle.plan_rules.specs.Cells.{Fits}
use Rattle.heur_setup_lps.proofs.plunging.put_some.Given as goal

abbrev pub invariant-loop-period : goal.invariant-loop-period
invariant-loop-period l = Fits l.instance l.setup
