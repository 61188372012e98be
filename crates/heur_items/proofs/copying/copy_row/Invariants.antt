use Rattle.plan_rules.specs.Cells.{Fits}
use Rattle.plan_rules.specs.Rows.{OtherRowsSame}
use Rattle.heur_items.specs.Copied.{IsSameBefore}
use Rattle.heur_items.proofs.copying.copy_row.Given as goal

abbrev pub invariant-loop-period : goal.invariant-loop-period
invariant-loop-period l = record {
  fits : Fits l.instance l.to;
  row : IsSameBefore l.from l.to l.item l.period;
  others : OtherRowsSame l.fn.to l.to l.item;
}
