use Rattle.std.proofs.Common.{◌≡◌, ◌≤◌, ◌<◌, ◌+◌, ◌-◌, ◌*◌, ◌^◌, ℕ}
use Rattle.lot_sizing.specs.declared.limits.TheConstants.{MAX_AMOUNT}
use Rattle.plan_rules.specs.Held.{most_used_up}
use Rattle.lot_sizing.specs.Least.{supply, outflow}
use Rattle.plan_rules.specs.Cells.{Fits, table_of}
use Rattle.plan_rules.specs.Rows.{OtherRowsSame}
use Rattle.lot_quantities.specs.Completed.{HasCapped}
use Rattle.lot_quantities.proofs.completing.fill_item.Given as goal

abbrev pub invariant-loop-period : goal.invariant-loop-period
invariant-loop-period l = record {
  stock : Fits l.instance l.stock;
  backlog : Fits l.instance l.backlog;
  supply : l.supply ≡ supply l.instance (table_of l.make) l.item (l.period - 1);
  outflow : l.outflow ≡ outflow l.instance (table_of l.make) l.item (l.period - 1);
  supply_small : l.supply ≤ l.period * 2 ^ 64;
  outflow_small : l.outflow ≤ l.period * (MAX_AMOUNT + most_used_up);
  row : (t : ℕ) → 1 ≤ t → t < l.period → HasCapped l.instance (table_of l.make) (table_of l.stock) (table_of l.backlog) l.item t;
  other_stocks : OtherRowsSame l.fn.stock l.stock l.item;
  other_backlogs : OtherRowsSame l.fn.backlog l.backlog l.item;
}
