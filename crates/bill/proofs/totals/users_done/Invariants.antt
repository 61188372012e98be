use Rattle.std.proofs.Common.{◌≡◌, ◌≤◌, ◌<◌, ℕ, true}
use Rattle.bill.specs.Lines.{bill_of_lines}
use Rattle.bill.specs.Sets.{has}
use Rattle.bill.proofs.totals.users_done.Given as goal

abbrev pub invariant-loop-other : goal.invariant-loop-other
invariant-loop-other l = (k : ℕ) → 1 ≤ k → k < l.other → 0 < (bill_of_lines l.lines).units l.item k → has l.done k ≡ true
