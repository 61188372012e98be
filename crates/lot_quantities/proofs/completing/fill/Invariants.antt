use Rattle.std.proofs.Common.{◌≤◌, ◌<◌, ℕ}
use Rattle.plan_rules.specs.Cells.{Fits, table_of}
use Rattle.lot_quantities.specs.Completed.{HasCapped}
use Rattle.lot_quantities.proofs.completing.fill.Given as goal

abbrev pub invariant-loop-item : goal.invariant-loop-item
invariant-loop-item l = record {
  stock : Fits l.instance l.stock;
  backlog : Fits l.instance l.backlog;
  rows : (i t : ℕ) → 1 ≤ i → i < l.item → 1 ≤ t → t ≤ l.instance.periods → HasCapped l.instance (table_of l.make) (table_of l.stock) (table_of l.backlog) i t;
}
