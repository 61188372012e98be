use Rattle.std.proofs.Common.{◌≡◌, ◌≤◌, ◌+◌, ◌-◌, ◌*◌}
use Rattle.lot_sizing.specs.declared.limits.TheConstants.{MAX_AMOUNT, MAX_TOTAL}
use Rattle.lot_sizing.specs.Sums.{sum_to}
use Rattle.lot_sizing.specs.Problem.{demand}
use Rattle.lot_sizing.specs.Plan.{used_up}
use Rattle.plan_rules.specs.Held.{most_used_up}
use Rattle.plan_rules.specs.Cells.{Fits, table_of}
use Rattle.plan_rules.specs.Rows.{OtherRowsSame}
use Rattle.own_plan.specs.Rows.{IsOwnBefore}
use Rattle.own_plan.proofs.own_period.fill_row.Given as goal

abbrev pub invariant-loop-period : goal.invariant-loop-period
invariant-loop-period l = record {
  make_fits : Fits l.instance l.make;
  setup_fits : Fits l.instance l.setup;
  asked : l.asked ≡ sum_to (l.period - 1) (λ u. demand l.instance l.item u + used_up l.instance (table_of l.fn.make) l.item u);
  asked_small : l.asked ≤ (l.period - 1) * (MAX_AMOUNT + most_used_up);
  made : l.made ≡ sum_to (l.period - 1) (table_of l.make l.item);
  made_small : l.made ≤ (l.period - 1) * MAX_TOTAL;
  row : IsOwnBefore l.instance (table_of l.fn.make) (table_of l.make) (table_of l.setup) l.item l.period;
  other_makes : OtherRowsSame l.fn.make l.make l.item;
  other_setups : OtherRowsSame l.fn.setup l.setup l.item;
}
