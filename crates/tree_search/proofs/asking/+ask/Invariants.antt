use Rattle.std.proofs.Common.{◌+◌, ◌*◌}
use Rattle.tree_search.specs.Counts.{branches}
use Rattle.tree_search.proofs.asking.+ask.Given as goal

abbrev pub decreases-ask_tree : goal.decreases-ask_tree
decreases-ask_tree g l = 4 * branches l.tree + 1

abbrev pub decreases-ask_branch : goal.decreases-ask_branch
decreases-ask_branch g l = 4 * (branches l.low + branches l.high) + 3

abbrev pub decreases-ask_side : goal.decreases-ask_side
decreases-ask_side g l = 4 * branches l.tree + 2
