use Rattle.std.proofs.Common.{◌≡◌, ◌<◌, ◌+◌, ◌∙◌, arith, refl, subst, sym}
use Rattle.rational.specs.Rational.{inv_ℚ}
use Rattle.frac128.specs.Limits.{Fits}
use Rattle.tableau.specs.Dictionary.{cell, width}
use Rattle.tableau.proofs.Cells.{corner_is, divided_end, divided_next, divided_refused, divided_skip, factor_divides}
use Rattle.tableau.proofs.plain.tableau.Tableau.divide_row.Goals.{else-column-pivot_column-via-then-column-pivot_column+else-not-multiply, else-column-pivot_column-via-else-column-pivot_column}
use Rattle.tableau.proofs.plain.tableau.Tableau.divide_row.Goals as goal
use Rattle.tableau.proofs.Loops.{IsDividedTo}

pub returns-in_default-clause-refused : goal.returns-in_default-clause-refused
returns-in_default-clause-refused c =
    let p = cell c.args.self.now c.args.pivot_row c.args.pivot_column in
    (c.requires.pivot_column, λ fits. c.in_default.ensures ((λ zero. c.requires.some (sym c.cell.ensures ∙ zero)), subst Fits (sym (corner_is c.whole.result c.cell.result p c.whole.ensures c.cell.ensures)) (fits.0 refl)))

pub loop-column-preserved : goal.loop-column-preserved
loop-column-preserved c =
    let d = c.args.self.now in
    let high : c.loop-column.column < width d = omega (arith, c.loop-column-test.true, c.width-column-end.ensures.value) in
    elim c.else-column-pivot_column.branch [
      | else-column-pivot_column-via-then-column-pivot_column+else-not-multiply w ↦ subst (IsDividedTo d c.args.pivot_row c.args.pivot_column c.opposite-factor.result (c.loop-column.column + 1)) (sym w.self-is) (divided_next d c.loop-column.self w.multiply.new.self c.args.pivot_row c.args.pivot_column c.loop-column.column c.opposite-factor.result c.requires.pivot_row high w.if-column-pivot_column.true c.loop-column.invariant (w.if-not-multiply.ensures.done refl) (w.if-not-multiply.ensures.fits refl))
      | else-column-pivot_column-via-else-column-pivot_column w ↦ subst (IsDividedTo d c.args.pivot_row c.args.pivot_column c.opposite-factor.result (c.loop-column.column + 1)) (sym w.self-is) (divided_skip d c.loop-column.self c.args.pivot_row c.args.pivot_column c.loop-column.column c.opposite-factor.result w.if-column-pivot_column.false c.loop-column.invariant)
    ]

pub returns-then-not-multiply-clause-refused : goal.returns-then-not-multiply-clause-refused
returns-then-not-multiply-clause-refused c =
    let d = c.args.self.now in
    let p = cell d c.args.pivot_row c.args.pivot_column in
    let high : c.loop-column.column < width d = omega (arith, c.loop-column-test.true, c.width-column-end.ensures.value) in
    let corner : c.in-Some.corner ≡ inv_ℚ p = c.in-Some.ensures.1 ∙ corner_is c.whole.result c.cell.result p c.whole.ensures c.cell.ensures in
    let refused = c.if-not-multiply.ensures.refused refl in
    (high, λ fits. refused.1 (divided_refused d c.loop-column.self c.args.pivot_row c.args.pivot_column c.loop-column.column c.opposite-factor.result high c.if-column-pivot_column.true (factor_divides p c.opposite-factor.result c.in-Some.corner c.requires.some corner c.opposite-factor.ensures) refused.0 c.loop-column.invariant fits))

pub returns-clause-divided : goal.returns-clause-divided
returns-clause-divided c =
    let d = c.args.self.now in
    let p = cell d c.args.pivot_row c.args.pivot_column in
    let corner : c.in-Some.corner ≡ inv_ℚ p = c.in-Some.ensures.1 ∙ corner_is c.whole.result c.cell.result p c.whole.ensures c.cell.ensures in
    divided_end d c.loop-column.self c.set.new.self c.args.pivot_row c.args.pivot_column c.loop-column.column c.opposite-factor.result c.in-Some.corner c.requires.pivot_row c.requires.pivot_column (omega (arith, c.loop-column-test.false, c.width-column-end.ensures.value)) (factor_divides p c.opposite-factor.result c.in-Some.corner c.requires.some corner c.opposite-factor.ensures) corner (subst Fits (sym c.in-Some.ensures.1) c.in-Some.ensures.0.1) c.loop-column.invariant c.set.ensures
