use Rattle.std.proofs.Common.{⊎_elim, refl, arith, subst, sym}
use Rattle.std.proofs.lemmas.Bool.{cases_eq}
use Rattle.rational.specs.Rational.{◌≤ℚ◌}
use Rattle.tableau.specs.Program.{zero_ℚ}
use Rattle.tableau.specs.Dictionary.{cell}
use Rattle.tableau.specs.Run.{IsPositive}
use Rattle.tableau.proofs.plain.tableau.Tableau.has_candidate.Goals as goal

pub returns-then-is_positive-clause-some : goal.returns-then-is_positive-clause-some
returns-then-is_positive-clause-some c = λ _. (c.loop-column.column, record { low = c.loop-column.auto.column; high = omega (arith, c.loop-column-test.true, c.width-column-end.ensures.value); positive = subst IsPositive c.cell.ensures (c.if-is_positive.ensures.yes refl) })

pub loop-column-preserved : goal.loop-column-preserved
loop-column-preserved c = λ t high candidate. ⊎_elim (λ same. candidate.positive (subst (λ u. cell c.args.self.now c.args.row u ≤ℚ zero_ℚ) (sym same) (subst (λ x. x ≤ℚ zero_ℚ) c.cell.ensures (c.if-is_positive.ensures.no refl)))) (λ apart. c.loop-column.invariant t (omega (arith, high, apart)) candidate) (cases_eq t c.loop-column.column)
