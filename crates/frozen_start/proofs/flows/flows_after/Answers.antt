use Rattle.plan_rules.specs.Cells.{table_of}
use Rattle.frozen_start.proofs.flows.flows_after.Goals as goal

pub loop-now-init : goal.loop-now-init
loop-now-init c = c.before-flows.ensures (table_of c.args.make.now)
