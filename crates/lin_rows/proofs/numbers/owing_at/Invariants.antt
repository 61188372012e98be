use Rattle.std.proofs.Common.{◌≡◌, ◌+◌, ◌-◌}
use Rattle.lin_rows.specs.Columns.{owing_count}
use Rattle.lin_rows.proofs.numbers.owing_at.Given as goal

abbrev pub invariant-loop-item : goal.invariant-loop-item
invariant-loop-item l = record {
  left : owing_count l.instance (l.item - 1) + l.left ≡ l.place;
  each : l.each ≡ l.instance.periods - 1;
}
