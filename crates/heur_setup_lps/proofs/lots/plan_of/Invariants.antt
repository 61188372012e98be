use Rattle.plan_rules.specs.Cells.{Fits}
use Rattle.heur_setup_lps.specs.Within.{IsSetUpWithin}
use Rattle.heur_setup_lps.proofs.lots.plan_of.Given as goal

abbrev pub invariant-loop-item : goal.invariant-loop-item
invariant-loop-item l = (Fits l.instance l.lots.make × Fits l.instance l.lots.setup) × IsSetUpWithin l.instance l.high l.lots.setup
