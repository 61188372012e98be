use Rattle.std.proofs.Common.{◌≡◌, ◌≤◌, ◌<◌, ◌+◌, ℕ}
use Rattle.plan_rules.specs.Cells.{Fits, table_of}
use Rattle.tree_search.specs.Ranges.{range_at}
use Rattle.node_domains.specs.Nodes.{cell_place}
use Rattle.node_domains.proofs.places.least_grid.Given as goal

abbrev pub invariant-loop-item : goal.invariant-loop-item
invariant-loop-item l = record {
  fits : Fits l.instance l.grid;
  least : (i t : ℕ) → 1 ≤ i → i < l.item → 1 ≤ t → t ≤ l.instance.periods → table_of l.grid i t ≡ (range_at l.ranges (l.first + cell_place l.instance i t)).low;
}
