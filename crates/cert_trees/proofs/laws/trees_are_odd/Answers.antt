use Rattle.cert_trees.proofs.Counting.{all_paths, odd_nodes}
use Rattle.cert_trees.proofs.laws.trees_are_odd.Goals as goal

pub returns : goal.returns
returns c = λ t. (odd_nodes t, λ path. all_paths path t)
