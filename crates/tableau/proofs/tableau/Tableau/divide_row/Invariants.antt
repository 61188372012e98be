use Rattle.tableau.specs.Steps.{from_place}
use Rattle.tableau.proofs.Loops.{IsDividedTo}
use Rattle.tableau.proofs.tableau.Tableau.divide_row.Given as goal

abbrev pub invariant-loop-place : goal.invariant-loop-place
invariant-loop-place l = IsDividedTo l.fn.self l.pivot_row l.pivot_column l.factor (from_place l.columns l.place) l.self
