use Rattle.std.proofs.Common.{◌-◌}
use Rattle.item_bound.specs.Steps.{AreApartTo}
use Rattle.item_bound.proofs.bound.apart.Given as goal

abbrev pub invariant-loop-item : goal.invariant-loop-item
invariant-loop-item l = AreApartTo l.instance (l.item - 1) l.found
