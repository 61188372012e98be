use Rattle.std.specs.Prelude.{take}
use Rattle.reduced_groups.specs.Floors.{AreGroupsOf}
use Rattle.reduced_groups.proofs.apart.first_other.Given as goal

abbrev pub invariant-loop-place : goal.invariant-loop-place
invariant-loop-place l = AreGroupsOf l.instance (take l.place l.groups)
