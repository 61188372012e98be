use Rattle.tableau.specs.Run.{IsFittingStep, Runs}
use Rattle.tableau.proofs.plain.run.solve.Given as goal

abbrev pub invariant-loop-made : goal.invariant-loop-made
invariant-loop-made l = Runs IsFittingStep l.lp l.made l.tableau
