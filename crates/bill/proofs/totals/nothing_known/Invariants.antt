use Rattle.std.proofs.Common.{◌≡◌, ◌≤◌, ◌-◌, ℕ, length, map, [], slice_index_or}
use Rattle.bill.specs.Over.{row_entry}
use Rattle.bill.proofs.totals.nothing_known.Given as goal

abbrev pub invariant-loop : goal.invariant-loop
invariant-loop l = record {
  size : length l.weights.items ≡ l.counter;
  rows : (i : ℕ) → 1 ≤ i → i ≤ l.counter → length (slice_index_or (map (λ v. v.items) l.weights.items) (i - 1) []) ≡ l.items;
  zero : (i k : ℕ) → row_entry (map (λ v. v.items) l.weights.items) i k ≡ 0;
}
