use Rattle.std.proofs.Common.{◌≡◌, ◌-◌, ◌++◌}
use Rattle.plan_rules.specs.Cells.{table_of}
use Rattle.node_domains.specs.Listed.{grid_list}
use Rattle.node_domains.proofs.places.push_grids.Given as goal

abbrev pub invariant-loop-item : goal.invariant-loop-item
invariant-loop-item l = l.ranges.items ≡ l.initial.ranges.items ++ grid_list (table_of l.low) (table_of l.high) (l.item - 1) l.instance.periods
