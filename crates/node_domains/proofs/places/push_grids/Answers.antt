use Rattle.std.proofs.Common.{arith}
use Rattle.plan_rules.specs.Cells.{table_of}
use Rattle.node_domains.proofs.Filled.{grid_more}
use Rattle.node_domains.proofs.places.push_grids.Goals as goal

pub loop-item-preserved : goal.loop-item-preserved
loop-item-preserved c =
    grid_more c.args.ranges.now.items c.loop-item.ranges.items c.push_row.new.ranges.items (table_of c.args.low.now) (table_of c.args.high.now) c.loop-item.item c.args.instance.now.periods (omega arith) c.loop-item.invariant (rw (← c.periods-periods.ensures.value) c.in_ok-push_row.ensures)
