use Rattle.tableau.proofs.plain.tableau.Tableau.pivot.Given as goal
use Rattle.tableau.proofs.Loops.{AreRowsTo}

abbrev pub invariant-loop-other : goal.invariant-loop-other
invariant-loop-other l = AreRowsTo l.fn.self l.row l.column l.other l.self
