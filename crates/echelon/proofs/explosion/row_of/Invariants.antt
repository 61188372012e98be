use Rattle.std.proofs.Common.{◌-◌}
use Rattle.echelon.specs.Weights.{IsRow}
use Rattle.echelon.proofs.explosion.row_of.Given as goal

abbrev pub invariant-loop-other : goal.invariant-loop-other
invariant-loop-other l = IsRow l.instance l.item (l.other - 1) l.row.items
