use Rattle.std.proofs.Common.{◌-◌}
use Rattle.std.specs.Prelude.{map}
use Rattle.reduced_groups.specs.Floors.{AreOnceTo, shape_of}
use Rattle.reduced_groups.proofs.apart.first_twice.Given as goal

abbrev pub invariant-loop-item : goal.invariant-loop-item
invariant-loop-item l = AreOnceTo (l.item - 1) (map shape_of l.groups)
