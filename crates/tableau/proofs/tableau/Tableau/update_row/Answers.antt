use Rattle.std.proofs.Common.{◌<◌, ◌≡◌, ◌+◌, arith, length, refl, slice_index_or, subst, sym}
use Rattle.frac128.specs.Limits.{Fits}
use Rattle.tableau.specs.Dictionary.{factor_at, width}
use Rattle.tableau.specs.Steps.{from_place}
use Rattle.tableau.proofs.Cells.{factor_is, row_end, row_refused, row_stays}
use Rattle.tableau.proofs.Columns.{row_all, row_here, row_more, row_pivot}
use Rattle.tableau.proofs.tableau.Tableau.update_row.Goals.{else-column-pivot_column-via-then-column-pivot_column+else-not-reduce, else-column-pivot_column-via-else-column-pivot_column}
use Rattle.tableau.proofs.tableau.Tableau.update_row.Goals as goal
use Rattle.tableau.proofs.Loops.{IsRowTo}

pub returns-then-not-has-clause-updated : goal.returns-then-not-has-clause-updated
returns-then-not-has-clause-updated c = row_stays c.args.self.now c.args.pivot_row c.args.pivot_column c.args.row (c.if-not-has.ensures.no refl)

pub loop-place-preserved : goal.loop-place-preserved
loop-place-preserved c =
    let d = c.args.self.now in
    let e = c.loop-place.self in
    let list = c.args.columns.now in
    let place = c.loop-place.place in
    let less : place < length list = omega (arith, c.loop-place-test.true) in
    elim c.else-column-pivot_column.branch [
      | else-column-pivot_column-via-then-column-pivot_column+else-not-reduce w ↦ subst (IsRowTo d c.args.pivot_row c.args.pivot_column c.args.row c.in-Some.factor (from_place list (place + 1))) (sym w.self-is) (row_more d e c.args.pivot_row c.args.pivot_column c.args.row place c.in-Some.factor list c.requires.columns c.loop-place.invariant w.reduce.new.self less c.requires.pivot_row c.requires.row c.requires.apart w.if-column-pivot_column.true (w.if-not-reduce.ensures.done refl) (w.if-not-reduce.ensures.fits refl))
      | else-column-pivot_column-via-else-column-pivot_column w ↦ subst (IsRowTo d c.args.pivot_row c.args.pivot_column c.args.row c.in-Some.factor (from_place list (place + 1))) (sym w.self-is) (row_pivot d e c.args.pivot_row c.args.pivot_column c.args.row place c.in-Some.factor list c.requires.columns c.loop-place.invariant less w.if-column-pivot_column.false)
    ]

pub returns-then-not-reduce-clause-refused : goal.returns-then-not-reduce-clause-refused
returns-then-not-reduce-clause-refused c =
    let d = c.args.self.now in
    let list = c.args.columns.now in
    let place = c.loop-place.place in
    let less : place < length list = omega (arith, c.loop-place-test.true) in
    let refused = c.if-not-reduce.ensures.refused refl in
    let is : c.in-Some.factor ≡ factor_at d c.args.pivot_row c.args.pivot_column c.args.row = factor_is d c.args.pivot_row c.args.pivot_column c.args.row c.in-Some.factor c.cell-old.result c.cell.result c.cell-old.ensures c.cell.ensures c.in-Some.ensures.1 in (
      c.requires.columns.below place less,
      λ fits. refused.1 (row_refused d c.loop-place.self c.args.pivot_row c.args.pivot_column c.args.row (slice_index_or list place 0) c.in-Some.factor c.requires.pivot_row (c.requires.columns.below place less) c.requires.apart c.if-column-pivot_column.true is (c.if-not-has.ensures.yes refl) refused.0 (row_here d c.loop-place.self c.args.pivot_row c.args.pivot_column c.args.row place c.in-Some.factor list c.requires.columns c.loop-place.invariant less) fits),
    )

pub returns-clause-updated : goal.returns-clause-updated
returns-clause-updated c =
    let d = c.args.self.now in
    let list = c.args.columns.now in
    let end : c.loop-place.place ≡ length list = omega (arith, c.loop-place-test.false, c.loop-place.auto.place-end) in
    row_end d c.loop-place.self c.set.new.self c.args.pivot_row c.args.pivot_column c.args.row (width d) c.in-Some.factor c.requires.row c.requires.pivot_column (omega arith) (factor_is d c.args.pivot_row c.args.pivot_column c.args.row c.in-Some.factor c.cell-old.result c.cell.result c.cell-old.ensures c.cell.ensures c.in-Some.ensures.1) (subst Fits (sym c.in-Some.ensures.1) c.in-Some.ensures.0.1) (row_all d c.loop-place.self c.args.pivot_row c.args.pivot_column c.args.row c.loop-place.place c.in-Some.factor list c.requires.columns c.loop-place.invariant end) c.set.ensures
