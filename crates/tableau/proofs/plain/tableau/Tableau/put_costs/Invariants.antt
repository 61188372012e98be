use Rattle.tableau.specs.Starts.{HasCosts}
use Rattle.tableau.proofs.plain.tableau.Tableau.put_costs.Given as goal

abbrev pub invariant-loop-column : goal.invariant-loop-column
invariant-loop-column l = HasCosts l.lp l.column l.fn.self l.self
