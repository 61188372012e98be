use Rattle.tableau.proofs.plain.tableau.Tableau.start.Given as goal
use Rattle.tableau.proofs.Loops.{IsStartTo}

abbrev pub invariant-loop-row : goal.invariant-loop-row
invariant-loop-row l = IsStartTo l.lp l.row l.tableau
