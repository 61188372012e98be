use Rattle.plan_rules.specs.Cells.{Fits}
use Rattle.heur_plugin.proofs.trying.want_item.Given as goal

abbrev pub invariant-loop-period : goal.invariant-loop-period
invariant-loop-period l = Fits l.instance l.wanted
