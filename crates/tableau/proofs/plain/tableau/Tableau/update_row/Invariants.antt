use Rattle.tableau.proofs.plain.tableau.Tableau.update_row.Given as goal
use Rattle.tableau.proofs.Loops.{IsRowTo}

abbrev pub invariant-loop-column : goal.invariant-loop-column
invariant-loop-column l = IsRowTo l.fn.self l.pivot_row l.pivot_column l.row l.factor l.column l.self
