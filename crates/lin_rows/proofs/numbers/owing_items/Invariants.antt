use Rattle.std.proofs.Common.{◌≡◌, ◌≤◌, ◌-◌}
use Rattle.lot_sizing.specs.Sums.{sum_to}
use Rattle.lin_rows.specs.Columns.{owes}
use Rattle.lin_rows.proofs.numbers.owing_items.Given as goal

abbrev pub invariant-loop-item : goal.invariant-loop-item
invariant-loop-item l = record {
  sum : l.sum ≡ sum_to (l.item - 1) (owes l.instance);
  small : l.sum ≤ l.item - 1;
}
