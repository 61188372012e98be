use Rattle.std.proofs.Common.{◌≡◌, ◌≤◌, ◌<◌, ℕ, length, map}
use Rattle.lot_sizing.specs.Problem.{entry}
use Rattle.bill.specs.Lines.{bill_of_lines}
use Rattle.bill.specs.Steps.{AreRows, weight_by}
use Rattle.bill.proofs.totals.write_row.Given as goal

abbrev pub invariant-loop-whole : goal.invariant-loop-whole
invariant-loop-whole l = record {
  row : AreRows (length l.lines) l.row;
  each : (k : ℕ) → 1 ≤ k → k < l.whole → entry l.row k ≡ weight_by (bill_of_lines l.lines) (map (λ v. v.items) l.weights) l.item k;
}
