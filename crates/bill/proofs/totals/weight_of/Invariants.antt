use Rattle.std.proofs.Common.{◌≡◌, ◌≤◌, ◌+◌, ◌-◌, ◌*◌, map}
use Rattle.lot_sizing.specs.Sums.{sum_to}
use Rattle.lot_sizing.specs.Bill.{one_if_same}
use Rattle.lot_sizing.specs.declared.limits.TheConstants.{MAX_BILL_LINES, MAX_QUANTITY, MAX_TOTAL}
use Rattle.bill.specs.Lines.{bill_of_lines}
use Rattle.bill.specs.Over.{row_entry}
use Rattle.bill.proofs.totals.weight_of.Given as goal

abbrev pub invariant-loop-other : goal.invariant-loop-other
invariant-loop-other l = record {
  sum : l.sum ≡ one_if_same l.item l.whole + sum_to (l.other - 1) (λ j. (bill_of_lines l.lines).units l.item j * row_entry (map (λ v. v.items) l.weights) j l.whole);
  small : l.sum ≤ 1 + (l.other - 1) * (MAX_BILL_LINES * MAX_QUANTITY * MAX_TOTAL);
}
