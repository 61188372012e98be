use Rattle.plan_rules.specs.Cells.{Fits}
use Rattle.heur_setup_lps.specs.Within.{IsSetUpWithin}
use Rattle.heur_setup_lps.proofs.lots.put_item.Given as goal

abbrev pub invariant-loop-period : goal.invariant-loop-period
invariant-loop-period l = (Fits l.instance l.lots.make × Fits l.instance l.lots.setup) × IsSetUpWithin l.instance l.high l.lots.setup
