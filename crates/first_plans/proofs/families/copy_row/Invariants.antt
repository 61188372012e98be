use Rattle.std.proofs.Common.{◌≡◌}
use Rattle.first_plans.proofs.families.copy_row.Given as goal

abbrev pub invariant-loop-before : goal.invariant-loop-before
invariant-loop-before l = record {
  items : l.to.items ≡ l.fn.to.items;
  periods : l.to.periods ≡ l.fn.to.periods;
}
