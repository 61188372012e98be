use Rattle.tableau.specs.Steps.{RatiosFitTo}
use Rattle.tableau.proofs.plain.tableau.Tableau.entering.Given as goal
use Rattle.tableau.proofs.Loops.{IsBestOrNone}

abbrev pub invariant-loop-column : goal.invariant-loop-column
invariant-loop-column l = IsBestOrNone l.self l.row l.column l.best × RatiosFitTo l.self l.row l.column
