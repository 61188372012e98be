use Rattle.tableau.proofs.plain.tableau.Tableau.leaving.Given as goal
use Rattle.tableau.proofs.Loops.{IsLowestOrNone}

abbrev pub invariant-loop-row : goal.invariant-loop-row
invariant-loop-row l = IsLowestOrNone l.self l.row l.best
