use Rattle.std.proofs.Common.{◌≡◌}
use Rattle.first_plans.proofs.families.take_rows.Given as goal

abbrev pub invariant-loop-item : goal.invariant-loop-item
invariant-loop-item l = record {
  items : l.own.items ≡ l.fn.own.items;
  periods : l.own.periods ≡ l.fn.own.periods;
}
