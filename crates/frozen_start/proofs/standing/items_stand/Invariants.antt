use Rattle.std.proofs.Common.{◌-◌}
use Rattle.lot_sizing.specs.Plan.{Each}
use Rattle.frozen_start.specs.Held.{CellStands, start_of}
use Rattle.frozen_start.proofs.standing.items_stand.Given as goal

abbrev pub invariant-loop-item : goal.invariant-loop-item
invariant-loop-item l = Each (l.item - 1) l.first (CellStands l.instance (start_of l.make l.setup))
