use Rattle.tableau.proofs.plain.tableau.Tableau.divide_row.Given as goal
use Rattle.tableau.proofs.Loops.{IsDividedTo}

abbrev pub invariant-loop-column : goal.invariant-loop-column
invariant-loop-column l = IsDividedTo l.fn.self l.pivot_row l.pivot_column l.factor l.column l.self
