use Rattle.std.proofs.Common.{[]}
use Rattle.cert_trees.proofs.Walk.{open_leaves, whole_open}
use Rattle.cert_trees.proofs.laws.leaves_are_open.Goals as goal

pub returns : goal.returns
returns c = record { leaves = λ m ranges t is some. open_leaves m ranges [] t is some; whole = λ m total. whole_open m total }
