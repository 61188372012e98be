use Rattle.plan_rules.specs.Cells.{table_of}
use Rattle.node_domains.proofs.Filled.{row_more}
use Rattle.node_domains.proofs.places.push_row.Goals as goal

pub loop-period-preserved : goal.loop-period-preserved
loop-period-preserved c =
    row_more c.args.ranges.now.items c.loop-period.ranges.items c.push.new.self.items (table_of c.args.low.now) (table_of c.args.high.now) c.args.item c.loop-period.period c.get-least.result c.get-most.result c.get-least.ensures c.get-most.ensures c.loop-period.invariant c.in_ok-push.ensures.items
