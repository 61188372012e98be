use Rattle.std.proofs.Common.{◌≡◌, ◌≤◌, ◌<◌, ◌⊎◌, ℕ, length, true, false}
use Rattle.bill.specs.Lines.{Names, line_at}
use Rattle.bill.specs.Sets.{has, missing}
use Rattle.bill.proofs.reach.add_lines.Given as goal

abbrev pub invariant-loop-line : goal.invariant-loop-line
invariant-loop-line l = record {
  size : length l.set ≡ length l.fn.set;
  keeps : (i : ℕ) → has l.fn.set i ≡ true → has l.set i ≡ true;
  named : (n : ℕ) → n < l.line → has l.set (line_at l.needs n).item ≡ true;
  only : (i : ℕ) → 1 ≤ i → has l.set i ≡ true → (has l.fn.set i ≡ true) ⊎ Names l.needs i;
  same : l.grown ≡ false → l.set ≡ l.fn.set;
  grown : l.grown ≡ true → missing l.set < missing l.fn.set;
  fewer : missing l.set ≤ missing l.fn.set;
}
