use Rattle.tableau.specs.Starts.{IsStartTo}
use Rattle.tableau.proofs.tableau.Tableau.start.Given as goal

abbrev pub invariant-loop-row : goal.invariant-loop-row
invariant-loop-row l = IsStartTo l.lp l.row l.tableau
