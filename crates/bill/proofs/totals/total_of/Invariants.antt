use Rattle.std.proofs.Common.{◌≡◌, ◌≤◌, ◌+◌, ◌-◌, ◌*◌, ◌^◌}
use Rattle.lot_sizing.specs.Sums.{sum_to}
use Rattle.lot_sizing.specs.Problem.{entry}
use Rattle.lot_sizing.specs.declared.limits.TheConstants.{MAX_BILL_LINES, MAX_QUANTITY, MAX_TOTAL}
use Rattle.bill.specs.Lines.{bill_of_lines}
use Rattle.bill.proofs.totals.total_of.Given as goal

abbrev pub invariant-loop-other : goal.invariant-loop-other
invariant-loop-other l = record {
  sum : l.sum ≡ l.asked + sum_to (l.other - 1) (λ j. (bill_of_lines l.lines).units l.item j * entry l.totals j);
  small : l.sum ≤ 2 ^ 64 + (l.other - 1) * (MAX_BILL_LINES * MAX_QUANTITY * MAX_TOTAL);
}
