use Rattle.std.proofs.Common.{◌≡◌, ℕ, length, false}
use Rattle.bill.specs.Sets.{has}
use Rattle.bill.proofs.reach.no_items.Given as goal

abbrev pub invariant-loop : goal.invariant-loop
invariant-loop l = record {
  size : length l.set.items ≡ l.counter;
  none : (i : ℕ) → has l.set.items i ≡ false;
}
