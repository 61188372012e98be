use Rattle.std.proofs.Common.{ℕ, ◌≤◌, ◌<◌}
use Rattle.plan_rules.specs.Cells.{Fits, table_of}
use Rattle.cert_trees.specs.Ranges.{WithTotals}
use Rattle.cert_checker.specs.Leaves.{IsPointAt}
use Rattle.cert_checker.proofs.leaf_point.fill.Given as goal

abbrev pub invariant-loop-item : goal.invariant-loop-item
invariant-loop-item l = record {
  make : Fits l.instance l.make;
  setup : Fits l.instance l.setup;
  cells : WithTotals l.instance (λ total. (i t : ℕ) → 1 ≤ i → i < l.item → 1 ≤ t → t ≤ l.instance.periods → IsPointAt total l.path (table_of l.make) (table_of l.setup) i t);
}
