use Rattle.tableau.specs.Starts.{AreVariables}
use Rattle.tableau.proofs.plain.start.numbers.Given as goal

abbrev pub invariant-loop-place : goal.invariant-loop-place
invariant-loop-place l = AreVariables l.first l.place l.list.items
