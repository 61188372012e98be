use Rattle.tableau.proofs.plain.tableau.Tableau.opposites.Given as goal
use Rattle.tableau.proofs.Loops.{AreOpposite}

abbrev pub invariant-loop-place : goal.invariant-loop-place
invariant-loop-place l = AreOpposite l.self l.row l.first l.count l.place l.list.items
