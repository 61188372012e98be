use Rattle.std.proofs.Common.{◌≡◌, ℕ, length}
use Rattle.lot_sizing.specs.Problem.{entry}
use Rattle.bill.proofs.totals.zeros.Given as goal

abbrev pub invariant-loop : goal.invariant-loop
invariant-loop l = record {
  size : length l.list.items ≡ l.counter;
  zero : (i : ℕ) → entry l.list.items i ≡ 0;
}
