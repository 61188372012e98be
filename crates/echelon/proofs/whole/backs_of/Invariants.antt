use Rattle.std.proofs.Common.{◌-◌}
use Rattle.echelon.specs.Weights.{AreBacks}
use Rattle.echelon.proofs.whole.backs_of.Given as goal

abbrev pub invariant-loop-item : goal.invariant-loop-item
invariant-loop-item l = AreBacks l.instance (l.item - 1) l.list.items
