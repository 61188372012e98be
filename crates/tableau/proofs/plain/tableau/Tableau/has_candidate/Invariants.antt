use Rattle.tableau.specs.Steps.{HasNoneTo}
use Rattle.tableau.proofs.plain.tableau.Tableau.has_candidate.Given as goal

abbrev pub invariant-loop-column : goal.invariant-loop-column
invariant-loop-column l = HasNoneTo l.self l.row l.column
