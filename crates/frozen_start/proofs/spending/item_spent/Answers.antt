use Rattle.std.proofs.Common.{refl, arith}
use Rattle.plan_rules.specs.Cells.{table_of}
use Rattle.frozen_start.proofs.spending.item_spent.Goals as goal

pub loop-period-init : goal.loop-period-init
loop-period-init c = record { total = refl; flows = c.before-flows.ensures (table_of c.args.make.now); small = omega arith }
