use Rattle.tableau.specs.Steps.{RatiosFitTo, from_place}
use Rattle.tableau.proofs.Loops.{IsBestOrNone}
use Rattle.tableau.proofs.tableau.Tableau.entering.Given as goal

abbrev pub invariant-loop-place : goal.invariant-loop-place
invariant-loop-place l = IsBestOrNone l.self l.row (from_place l.columns l.place) l.best × RatiosFitTo l.self l.row (from_place l.columns l.place)
