use Rattle.tableau.specs.Steps.{from_place}
use Rattle.tableau.proofs.Loops.{IsRowTo}
use Rattle.tableau.proofs.tableau.Tableau.update_row.Given as goal

abbrev pub invariant-loop-place : goal.invariant-loop-place
invariant-loop-place l = IsRowTo l.fn.self l.pivot_row l.pivot_column l.row l.factor (from_place l.columns l.place) l.self
