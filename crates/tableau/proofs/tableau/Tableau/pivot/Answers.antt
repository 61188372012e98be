use Rattle.std.proofs.Common.{◌<◌, ◌+◌, arith, subst, sym}
use Rattle.tableau.specs.Dictionary.{height}
use Rattle.tableau.proofs.Cells.{rows_next, rows_skip}
use Rattle.tableau.proofs.tableau.Tableau.pivot.Goals.{then-other-row+in-Ok, else-other-row}
use Rattle.tableau.proofs.tableau.Tableau.pivot.Goals as goal
use Rattle.tableau.proofs.Loops.{AreRowsTo}

pub loop-other-preserved : goal.loop-other-preserved
loop-other-preserved c =
    let d = c.args.self.now in
    let high : c.loop-other.other < height d = omega (arith, c.loop-other-test.true, c.height-other-end.ensures.value) in
    elim c.if-other-row.branch [
      | then-other-row+in-Ok w ↦ subst (AreRowsTo d c.args.row c.args.column (c.loop-other.other + 1)) (sym w.self-is) (rows_next d c.loop-other.self c.args.row c.args.column c.loop-other.other c.requires.row c.requires.column high c.loop-other.invariant w.update_row.new.self w.if-other-row.true w.in-Ok.ensures.updated)
      | else-other-row w ↦ subst (AreRowsTo d c.args.row c.args.column (c.loop-other.other + 1)) (sym w.self-is) (rows_skip d c.loop-other.self c.args.row c.args.column c.loop-other.other w.if-other-row.false c.loop-other.invariant)
    ]
