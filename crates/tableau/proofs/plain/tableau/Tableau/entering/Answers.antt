use Rattle.tableau.proofs.Cells.{best_next, fit_next}
use Rattle.tableau.proofs.plain.tableau.Tableau.entering.Goals as goal

pub loop-column-preserved : goal.loop-column-preserved
loop-column-preserved c = (
  best_next c.args.self.now c.args.row c.loop-column.column c.loop-column.best c.in_ok-best.best c.loop-column.invariant.0 c.in_ok-best.ensures.better,
  fit_next c.args.self.now c.args.row c.loop-column.column c.loop-column.best c.in_ok-best.best c.loop-column.invariant.1 c.in_ok-best.ensures.better,
)
