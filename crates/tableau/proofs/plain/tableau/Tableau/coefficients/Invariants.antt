use Rattle.tableau.specs.Dictionary.{cell, nonbasic_at}
use Rattle.tableau.proofs.plain.tableau.Tableau.coefficients.Given as goal
use Rattle.tableau.proofs.Loops.{ArePut}

abbrev pub invariant-loop-column : goal.invariant-loop-column
invariant-loop-column l = ArePut (nonbasic_at l.self) (cell l.self l.row) l.first l.count l.column l.list.items
