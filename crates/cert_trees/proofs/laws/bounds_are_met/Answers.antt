use Rattle.cert_trees.proofs.Left.{bound_met}
use Rattle.cert_trees.proofs.laws.bounds_are_met.Goals as goal

pub returns : goal.returns
returns c = λ v b. bound_met v b
