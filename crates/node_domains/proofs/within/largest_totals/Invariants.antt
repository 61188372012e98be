use Rattle.std.proofs.Common.{◌≡◌, ◌≤◌, ◌<◌, ℕ}
use Rattle.plan_rules.specs.Cells.{Fits, table_of}
use Rattle.cert_trees.specs.Ranges.{WithTotals}
use Rattle.node_domains.proofs.within.largest_totals.Given as goal

abbrev pub invariant-loop-item : goal.invariant-loop-item
invariant-loop-item l = record {
  fits : Fits l.instance l.grid;
  totals : WithTotals l.instance (λ total. (i t : ℕ) → 1 ≤ i → i < l.item → 1 ≤ t → t ≤ l.instance.periods → table_of l.grid i t ≡ total i);
}
