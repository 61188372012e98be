use Rattle.std.proofs.Common.{◌-◌}
use Rattle.plan_rules.specs.Cells.{table_of}
use Rattle.frozen_start.specs.Held.{AreFlows}
use Rattle.frozen_start.proofs.flows.flows_after.Given as goal

abbrev pub invariant-loop-now : goal.invariant-loop-now
invariant-loop-now l = AreFlows l.instance (table_of l.make) l.item (l.now - 1) l.flows
