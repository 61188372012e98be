use Rattle.std.proofs.Common.{◌≡◌, take}
use Rattle.tableau.specs.Denominators.{whole_at}
use Rattle.lp_relaxation.specs.Sides.{parts_of}
use Rattle.lp_relaxation.proofs.leaf.leaf_parts.Given as goal

abbrev pub invariant-loop-index : goal.invariant-loop-index
invariant-loop-index l = l.parts.items ≡ parts_of (take l.index l.sides) (whole_at l.times)
