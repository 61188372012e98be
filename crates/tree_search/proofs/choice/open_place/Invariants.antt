use Rattle.std.proofs.Common.{take}
use Rattle.tree_search.specs.Ranges.{IsPoint}
use Rattle.tree_search.proofs.choice.open_place.Given as goal

abbrev pub invariant-loop-k : goal.invariant-loop-k
invariant-loop-k l = IsPoint (take l.k l.ranges)
