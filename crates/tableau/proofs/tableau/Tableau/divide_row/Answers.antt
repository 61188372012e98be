use Rattle.std.proofs.Common.{◌<◌, ◌≡◌, ◌+◌, ◌∙◌, arith, length, refl, slice_index_or, subst, sym}
use Rattle.rational.specs.Rational.{inv_ℚ}
use Rattle.frac128.specs.Limits.{Fits}
use Rattle.tableau.specs.Dictionary.{cell, width}
use Rattle.tableau.specs.Steps.{from_place}
use Rattle.tableau.proofs.Cells.{corner_is, divided_end, divided_refused, factor_divides}
use Rattle.tableau.proofs.Columns.{divided_all, divided_here, divided_more, divided_pivot}
use Rattle.tableau.proofs.tableau.Tableau.divide_row.Goals.{else-column-pivot_column-via-then-column-pivot_column+else-not-multiply, else-column-pivot_column-via-else-column-pivot_column}
use Rattle.tableau.proofs.tableau.Tableau.divide_row.Goals as goal
use Rattle.tableau.proofs.Loops.{IsDividedTo}

pub returns-in_default-clause-refused : goal.returns-in_default-clause-refused
returns-in_default-clause-refused c =
    let p = cell c.args.self.now c.args.pivot_row c.args.pivot_column in
    (c.requires.pivot_column, λ fits. c.in_default.ensures ((λ zero. c.requires.some (sym c.cell.ensures ∙ zero)), subst Fits (sym (corner_is c.whole.result c.cell.result p c.whole.ensures c.cell.ensures)) (fits.0 refl)))

pub loop-place-preserved : goal.loop-place-preserved
loop-place-preserved c =
    let d = c.args.self.now in
    let list = c.args.columns.now in
    let place = c.loop-place.place in
    let less : place < length list = omega (arith, c.loop-place-test.true) in
    elim c.else-column-pivot_column.branch [
      | else-column-pivot_column-via-then-column-pivot_column+else-not-multiply w ↦ subst (IsDividedTo d c.args.pivot_row c.args.pivot_column c.opposite-factor.result (from_place list (place + 1))) (sym w.self-is) (divided_more d c.loop-place.self c.args.pivot_row c.args.pivot_column place c.opposite-factor.result list c.requires.columns c.loop-place.invariant w.multiply.new.self less c.requires.pivot_row w.if-column-pivot_column.true (w.if-not-multiply.ensures.done refl) (w.if-not-multiply.ensures.fits refl))
      | else-column-pivot_column-via-else-column-pivot_column w ↦ subst (IsDividedTo d c.args.pivot_row c.args.pivot_column c.opposite-factor.result (from_place list (place + 1))) (sym w.self-is) (divided_pivot d c.loop-place.self c.args.pivot_row c.args.pivot_column place c.opposite-factor.result list c.requires.columns c.loop-place.invariant less w.if-column-pivot_column.false)
    ]

pub returns-then-not-multiply-clause-refused : goal.returns-then-not-multiply-clause-refused
returns-then-not-multiply-clause-refused c =
    let d = c.args.self.now in
    let p = cell d c.args.pivot_row c.args.pivot_column in
    let list = c.args.columns.now in
    let place = c.loop-place.place in
    let less : place < length list = omega (arith, c.loop-place-test.true) in
    let corner : c.in-Some.corner ≡ inv_ℚ p = c.in-Some.ensures.1 ∙ corner_is c.whole.result c.cell.result p c.whole.ensures c.cell.ensures in
    let refused = c.if-not-multiply.ensures.refused refl in
    (c.requires.columns.below place less, λ fits. refused.1 (divided_refused d c.loop-place.self c.args.pivot_row c.args.pivot_column (slice_index_or list place 0) c.opposite-factor.result (c.requires.columns.below place less) c.if-column-pivot_column.true (factor_divides p c.opposite-factor.result c.in-Some.corner c.requires.some corner c.opposite-factor.ensures) refused.0 (divided_here d c.loop-place.self c.args.pivot_row c.args.pivot_column place c.opposite-factor.result list c.requires.columns c.loop-place.invariant less) fits))

pub returns-clause-divided : goal.returns-clause-divided
returns-clause-divided c =
    let d = c.args.self.now in
    let p = cell d c.args.pivot_row c.args.pivot_column in
    let list = c.args.columns.now in
    let end : c.loop-place.place ≡ length list = omega (arith, c.loop-place-test.false, c.loop-place.auto.place-end) in
    let corner : c.in-Some.corner ≡ inv_ℚ p = c.in-Some.ensures.1 ∙ corner_is c.whole.result c.cell.result p c.whole.ensures c.cell.ensures in
    divided_end d c.loop-place.self c.set.new.self c.args.pivot_row c.args.pivot_column (width d) c.opposite-factor.result c.in-Some.corner c.requires.pivot_row c.requires.pivot_column (omega arith) (factor_divides p c.opposite-factor.result c.in-Some.corner c.requires.some corner c.opposite-factor.ensures) corner (subst Fits (sym c.in-Some.ensures.1) c.in-Some.ensures.0.1) (divided_all d c.loop-place.self c.args.pivot_row c.args.pivot_column c.loop-place.place c.opposite-factor.result list c.requires.columns c.loop-place.invariant end) c.set.ensures
