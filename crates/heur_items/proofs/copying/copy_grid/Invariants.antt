use Rattle.plan_rules.specs.Cells.{Fits}
use Rattle.heur_items.specs.Copied.{AreRowsSame}
use Rattle.heur_items.proofs.copying.copy_grid.Given as goal

abbrev pub invariant-loop-item : goal.invariant-loop-item
invariant-loop-item l = record {
  fits : Fits l.instance l.to;
  rows : AreRowsSame l.instance l.from l.to l.item;
}
