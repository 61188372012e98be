use Rattle.std.proofs.Common.{◌+◌, ◌*◌}
use Rattle.tree_search.specs.Counts.{branches}
use Rattle.tree_search.proofs.growing.+grow.Given as goal

abbrev pub decreases-grow : goal.decreases-grow
decreases-grow g l = 4 * (l.room.now + branches l.tree) + 1

abbrev pub decreases-grow_leaf : goal.decreases-grow_leaf
decreases-grow_leaf g l = 4 * l.room.now

abbrev pub decreases-grow_branch : goal.decreases-grow_branch
decreases-grow_branch g l = 4 * (l.room.now + branches l.halves.low + branches l.halves.high) + 3

abbrev pub decreases-grow_side : goal.decreases-grow_side
decreases-grow_side g l = 4 * (l.room.now + branches l.tree) + 2
