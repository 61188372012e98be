use Rattle.cert_trees.proofs.Counting.{one_leaf}
use Rattle.cert_trees.proofs.Places.{lies_met}
use Rattle.cert_trees.proofs.laws.one_leaf_for_each.Goals as goal

pub returns : goal.returns
returns c = record { one = λ v t. one_leaf v t; lies = λ v path. lies_met v path }
