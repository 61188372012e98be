use Rattle.std.proofs.Common.{◌≡◌, ◌≤◌, ◌+◌, ℕ, length, slice_index_or}
use Rattle.lot_sizing.specs.Sums.{sum_to}
use Rattle.lot_sizing.specs.Problem.{entry}
use Rattle.facility_form.proofs.assignment.sums_asked.Given as goal

abbrev pub invariant-loop-place : goal.invariant-loop-place
invariant-loop-place l = record {
  size : length l.sums.items ≡ l.place + 1;
  sum : l.sum ≡ sum_to l.place (entry l.net);
  each : (t : ℕ) → t ≤ l.place → slice_index_or l.sums.items t 0 ≡ sum_to t (entry l.net);
}
