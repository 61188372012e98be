use Rattle.tableau.specs.Dictionary.{basic_at}
use Rattle.tableau.proofs.Loops.{constant_at}
use Rattle.tableau.proofs.plain.tableau.Tableau.values.Given as goal
use Rattle.tableau.proofs.Loops.{ArePut}

abbrev pub invariant-loop-row : goal.invariant-loop-row
invariant-loop-row l = ArePut (basic_at l.self) (constant_at l.self) l.first l.count l.row l.list.items
