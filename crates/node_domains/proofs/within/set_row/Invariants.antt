use Rattle.std.proofs.Common.{◌≡◌, ◌≤◌, ℕ}
use Rattle.plan_rules.specs.Cells.{table_of}
use Rattle.plan_rules.specs.Rows.{OtherRowsSame}
use Rattle.node_domains.proofs.within.set_row.Given as goal

abbrev pub invariant-loop-period : goal.invariant-loop-period
invariant-loop-period l = record {
  items : l.grid.items ≡ l.initial.grid.items;
  periods : l.grid.periods ≡ l.initial.grid.periods;
  here : (t : ℕ) → 1 ≤ t → t ≤ l.period → table_of l.grid l.item t ≡ l.value;
  others : OtherRowsSame l.initial.grid l.grid l.item;
}
