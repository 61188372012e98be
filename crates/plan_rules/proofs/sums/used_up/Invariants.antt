use Rattle.lot_sizing.specs.declared.limits.TheConstants.{MAX_BILL_LINES, MAX_QUANTITY}
use Rattle.std.proofs.Common.{◌≡◌, ◌≤◌, ◌-◌, ◌*◌, ◌^◌}
use Rattle.lot_sizing.specs.Sums.{sum_to}
use Rattle.lot_sizing.specs.Problem.{per_unit}
use Rattle.plan_rules.specs.Cells.{table_of}
use Rattle.plan_rules.proofs.sums.used_up.Given as goal

abbrev pub invariant-loop-other : goal.invariant-loop-other
invariant-loop-other l = record {
  total : l.total ≡ sum_to (l.other - 1) (λ j. per_unit l.instance l.item j * table_of l.make j l.period);
  small : l.total ≤ (l.other - 1) * (MAX_BILL_LINES * MAX_QUANTITY * 2 ^ 64);
}
