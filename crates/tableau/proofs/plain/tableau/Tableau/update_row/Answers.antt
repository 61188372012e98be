use Rattle.std.proofs.Common.{◌<◌, ◌+◌, ◌∙◌, arith, refl, subst, sym}
use Rattle.frac128.specs.Limits.{Fits}
use Rattle.tableau.specs.Dictionary.{width}
use Rattle.tableau.proofs.Cells.{factor_is, row_end, row_next, row_refused, row_skip, row_stays}
use Rattle.tableau.proofs.plain.tableau.Tableau.update_row.Goals.{else-column-pivot_column-via-then-column-pivot_column+else-not-reduce, else-column-pivot_column-via-else-column-pivot_column}
use Rattle.tableau.proofs.plain.tableau.Tableau.update_row.Goals as goal
use Rattle.tableau.proofs.Loops.{IsRowTo}

pub returns-then-is_zero-clause-updated : goal.returns-then-is_zero-clause-updated
returns-then-is_zero-clause-updated c = row_stays c.args.self.now c.args.pivot_row c.args.pivot_column c.args.row (sym c.cell-old.ensures ∙ c.if-is_zero.ensures.yes refl)

pub loop-column-preserved : goal.loop-column-preserved
loop-column-preserved c =
    let d = c.args.self.now in
    let e = c.loop-column.self in
    let high : c.loop-column.column < width d = omega (arith, c.loop-column-test.true, c.width-column-end.ensures.value) in
    elim c.else-column-pivot_column.branch [
      | else-column-pivot_column-via-then-column-pivot_column+else-not-reduce w ↦ subst (IsRowTo d c.args.pivot_row c.args.pivot_column c.args.row c.in-Some.factor (c.loop-column.column + 1)) (sym w.self-is) (row_next d e w.reduce.new.self c.args.pivot_row c.args.pivot_column c.args.row c.loop-column.column c.in-Some.factor c.requires.pivot_row c.requires.row high c.requires.apart w.if-column-pivot_column.true c.loop-column.invariant (w.if-not-reduce.ensures.done refl) (w.if-not-reduce.ensures.fits refl))
      | else-column-pivot_column-via-else-column-pivot_column w ↦ subst (IsRowTo d c.args.pivot_row c.args.pivot_column c.args.row c.in-Some.factor (c.loop-column.column + 1)) (sym w.self-is) (row_skip d e c.args.pivot_row c.args.pivot_column c.args.row c.loop-column.column c.in-Some.factor w.if-column-pivot_column.false c.loop-column.invariant)
    ]

pub returns-then-not-reduce-clause-refused : goal.returns-then-not-reduce-clause-refused
returns-then-not-reduce-clause-refused c =
    let d = c.args.self.now in
    let high : c.loop-column.column < width d = omega (arith, c.loop-column-test.true, c.width-column-end.ensures.value) in
    let refused = c.if-not-reduce.ensures.refused refl in (
      high,
      λ fits. refused.1 (row_refused d c.loop-column.self c.args.pivot_row c.args.pivot_column c.args.row c.loop-column.column c.in-Some.factor c.requires.pivot_row high c.requires.apart c.if-column-pivot_column.true (factor_is d c.args.pivot_row c.args.pivot_column c.args.row c.in-Some.factor c.cell-old.result c.cell.result c.cell-old.ensures c.cell.ensures c.in-Some.ensures.1) (λ zero. c.if-is_zero.ensures.no refl (c.cell-old.ensures ∙ zero)) refused.0 c.loop-column.invariant fits),
    )

pub returns-clause-updated : goal.returns-clause-updated
returns-clause-updated c =
    let d = c.args.self.now in
    row_end d c.loop-column.self c.set.new.self c.args.pivot_row c.args.pivot_column c.args.row c.loop-column.column c.in-Some.factor c.requires.row c.requires.pivot_column (omega (arith, c.loop-column-test.false, c.width-column-end.ensures.value)) (factor_is d c.args.pivot_row c.args.pivot_column c.args.row c.in-Some.factor c.cell-old.result c.cell.result c.cell-old.ensures c.cell.ensures c.in-Some.ensures.1) (subst Fits (sym c.in-Some.ensures.1) c.in-Some.ensures.0.1) c.loop-column.invariant c.set.ensures
