use Rattle.std.proofs.Common.{◌-◌}
use Rattle.quantity_dp.specs.Table.{IsNextTo, brought_in}
use Rattle.quantity_dp.specs.Window.{IsWindow}
use Rattle.quantity_dp.proofs.table.next_row.Given as goal

abbrev pub invariant-loop-quantity : goal.invariant-loop-quantity
invariant-loop-quantity l = record {
  window : IsWindow (brought_in l.before l.lot.unit) (l.quantity - 1 - l.lot.largest) l.quantity l.window;
  row : IsNextTo l.lot l.before l.quantity l.row.items;
}
