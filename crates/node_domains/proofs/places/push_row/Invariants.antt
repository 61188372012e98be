use Rattle.std.proofs.Common.{◌≡◌, ◌++◌}
use Rattle.plan_rules.specs.Cells.{table_of}
use Rattle.node_domains.specs.Listed.{row_list}
use Rattle.node_domains.proofs.places.push_row.Given as goal

abbrev pub invariant-loop-period : goal.invariant-loop-period
invariant-loop-period l = l.ranges.items ≡ l.initial.ranges.items ++ row_list (table_of l.low) (table_of l.high) l.item l.period
