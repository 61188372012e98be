use Rattle.plan_rules.specs.Cells.{Fits}
use Rattle.heur_plugin.proofs.trying.wanted_of.Given as goal

abbrev pub invariant-loop-item : goal.invariant-loop-item
invariant-loop-item l = Fits l.instance l.wanted
