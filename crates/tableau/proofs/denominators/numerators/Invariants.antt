use Rattle.tableau.specs.Outcomes.{number_at}
use Rattle.tableau.specs.Denominators.{AreNumerators}
use Rattle.tableau.proofs.denominators.numerators.Given as goal

abbrev pub invariant-loop-fraction : goal.invariant-loop-fraction
invariant-loop-fraction l = AreNumerators l.fraction-index (number_at l.fractions) l.den l.list.items
