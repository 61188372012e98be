use Rattle.std.proofs.Common.{◌-◌, ◌<◌, ◌≤◌, ℕ}
use Rattle.plan_rules.specs.Cells.{table_of}
use Rattle.frozen_start.specs.Held.{AreFlows, CellStands, start_of}
use Rattle.frozen_start.proofs.standing.item_stands.Given as goal

abbrev pub invariant-loop-period : goal.invariant-loop-period
invariant-loop-period l = record {
  flows : AreFlows l.instance (table_of l.make) l.item (l.period - 1) l.flows;
  stands : (u : ℕ) → 1 ≤ u → u < l.period → CellStands l.instance (start_of l.make l.setup) l.item u;
}
