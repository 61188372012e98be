use Rattle.std.proofs.Common.{◌≡◌}
use Rattle.first_plans.proofs.families.give_rows.Given as goal

abbrev pub invariant-loop-item : goal.invariant-loop-item
invariant-loop-item l = record {
  items : l.all.items ≡ l.fn.all.items;
  periods : l.all.periods ≡ l.fn.all.periods;
}
