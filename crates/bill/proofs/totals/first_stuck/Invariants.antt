use Rattle.std.proofs.Common.{◌≤◌, ◌<◌, ℕ}
use Rattle.bill.specs.Lines.{bill_of_lines}
use Rattle.bill.specs.Steps.{IsWaiting}
use Rattle.bill.proofs.totals.first_stuck.Given as goal

abbrev pub invariant-loop-item : goal.invariant-loop-item
invariant-loop-item l = (j : ℕ) → 1 ≤ j → j < l.item → IsWaiting (bill_of_lines l.lines) l.done j
