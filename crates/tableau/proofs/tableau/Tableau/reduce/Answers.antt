use Rattle.std.proofs.Common.{◌≡◌, ◌≢◌, ◌∙◌, refl, subst, sym}
use Rattle.std.specs.Prelude.{◌-ℤ◌}
use Rattle.rational.specs.Rational.{◌*ℚ◌}
use Rattle.frac128.specs.Limits.{Fits, SumFits}
use Rattle.tableau.specs.Program.{zero_ℚ}
use Rattle.tableau.specs.Dictionary.{cell}
use Rattle.tableau.proofs.Cells.{reduced_zero, set_same}
use Rattle.tableau.proofs.tableau.Tableau.reduce.Goals as goal

pub returns-then-is_zero-clause-done : goal.returns-then-is_zero-clause-done
returns-then-is_zero-clause-done c = λ _. set_same c.args.self.now c.args.row c.args.column _ (reduced_zero (cell c.args.self.now c.args.row c.args.column) c.args.factor (cell c.args.self.now c.args.pivot_row c.args.column) (sym c.cell-source.ensures ∙ c.if-is_zero.ensures.yes refl))

pub returns-then-is_zero-clause-fits : goal.returns-then-is_zero-clause-fits
returns-then-is_zero-clause-fits c = λ _.
    let zero : cell c.args.self.now c.args.pivot_row c.args.column ≡ zero_ℚ = sym c.cell-source.ensures ∙ c.if-is_zero.ensures.yes refl in
    record { product = λ some. absurd (some zero); difference = λ some. absurd (some zero) }

pub returns-in_default-clause-refused : goal.returns-in_default-clause-refused
returns-in_default-clause-refused c = λ _.
    let some : cell c.args.self.now c.args.pivot_row c.args.column ≢ zero_ℚ = λ e. c.if-is_zero.ensures.no refl (c.cell-source.ensures ∙ e) in
    (some, λ fits. c.in_default.ensures (subst (λ x. Fits (c.args.factor *ℚ x)) (sym c.cell-source.ensures) (fits.product some)))

pub returns-in_default-sub-clause-refused : goal.returns-in_default-sub-clause-refused
returns-in_default-sub-clause-refused c = λ _.
    let some : cell c.args.self.now c.args.pivot_row c.args.column ≢ zero_ℚ = λ e. c.if-is_zero.ensures.no refl (c.cell-source.ensures ∙ e) in
    (some, λ fits. c.in_default-sub.ensures (subst (λ y. SumFits ◌-ℤ◌ y c.in-Some.product) (sym c.requires.old) (subst (SumFits ◌-ℤ◌ (cell c.args.self.now c.args.row c.args.column)) (sym c.in-Some.ensures.1) (subst (λ x. SumFits ◌-ℤ◌ (cell c.args.self.now c.args.row c.args.column) (c.args.factor *ℚ x)) (sym c.cell-source.ensures) (fits.difference some)))))

pub returns-clause-fits : goal.returns-clause-fits
returns-clause-fits c = λ _. record {
  product = λ some. subst (λ x. Fits (c.args.factor *ℚ x)) c.cell-source.ensures c.in-Some.ensures.0;
  difference = λ some. subst (λ x. SumFits ◌-ℤ◌ (cell c.args.self.now c.args.row c.args.column) (c.args.factor *ℚ x)) c.cell-source.ensures (subst (SumFits ◌-ℤ◌ (cell c.args.self.now c.args.row c.args.column)) c.in-Some.ensures.1 (subst (λ y. SumFits ◌-ℤ◌ y c.in-Some.product) c.requires.old c.in-Some-sub.ensures.0));
}
