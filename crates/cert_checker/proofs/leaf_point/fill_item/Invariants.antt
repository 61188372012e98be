use Rattle.std.proofs.Common.{ℕ, ◌≤◌, ◌<◌}
use Rattle.plan_rules.specs.Cells.{Fits, table_of}
use Rattle.plan_rules.specs.Rows.{OtherRowsSame}
use Rattle.cert_trees.specs.Ranges.{WithTotals}
use Rattle.cert_checker.specs.Leaves.{IsPointAt}
use Rattle.cert_checker.proofs.leaf_point.fill_item.Given as goal

abbrev pub invariant-loop-period : goal.invariant-loop-period
invariant-loop-period l = record {
  make : Fits l.instance l.make;
  setup : Fits l.instance l.setup;
  row : WithTotals l.instance (λ total. (t : ℕ) → 1 ≤ t → t < l.period → IsPointAt total l.path (table_of l.make) (table_of l.setup) l.item t);
  other_quantities : OtherRowsSame l.fn.make l.make l.item;
  other_setups : OtherRowsSame l.fn.setup l.setup l.item;
}
