use Rattle.std.specs.Prelude.{◌≡◌}
use Rattle.tableau.specs.Dictionary.{Dictionary}
use Rattle.tableau.specs.Run.{IsFittingStep, Runs}
use Rattle.tableau.specs.Stepwise.{at}
use Rattle.tableau.proofs.program.Lp.solve.Given as goal

abbrev pub invariant-loop-made : goal.invariant-loop-made
invariant-loop-made l = (d : Dictionary) × (l.run ≡ at d) × Runs IsFittingStep l.self l.made d
