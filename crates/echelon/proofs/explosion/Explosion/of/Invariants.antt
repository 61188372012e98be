use Rattle.std.proofs.Common.{◌-◌, map}
use Rattle.echelon.specs.Weights.{AreRowsTo}
use Rattle.echelon.proofs.explosion.Explosion.of.Given as goal

abbrev pub invariant-loop-item : goal.invariant-loop-item
invariant-loop-item l = AreRowsTo l.instance (l.item - 1) (map (λ v. v.items) l.weights.items)
