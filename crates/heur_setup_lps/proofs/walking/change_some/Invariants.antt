use Rattle.plan_rules.specs.Cells.{Fits}
use Rattle.heur_setup_lps.proofs.walking.change_some.Given as goal

abbrev pub invariant-loop-change : goal.invariant-loop-change
invariant-loop-change l = Fits l.instance l.setup
