use Rattle.std.proofs.Common.{◌≡◌, ◌≤◌, ◌*◌, take}
use Rattle.lot_sizing.specs.declared.limits.TheConstants.{MAX_QUANTITY}
use Rattle.bill.specs.Lines.{units_in}
use Rattle.bill.proofs.totals.units.Given as goal

abbrev pub invariant-loop-line : goal.invariant-loop-line
invariant-loop-line l = record {
  sum : l.sum ≡ units_in (take l.line l.needs) l.item;
  small : l.sum ≤ l.line * MAX_QUANTITY;
}
