use Rattle.std.proofs.Common.{◌≡◌, ◌≤◌, ◌<◌, ◌-◌, ℕ, length, slice_index_or}
use Rattle.lot_sizing.specs.Sums.{sum_to}
use Rattle.lin_rows.specs.Columns.{owes}
use Rattle.lin_rows.proofs.point.owing_counts.Given as goal

abbrev pub invariant-loop-item : goal.invariant-loop-item
invariant-loop-item l = record {
  size : length l.counts ≡ 41;
  counts : (n : ℕ) → n < l.item → slice_index_or l.counts n 0 ≡ sum_to n (owes l.instance);
  small : (n : ℕ) → slice_index_or l.counts n 0 ≤ l.item - 1;
}
