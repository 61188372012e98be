use Rattle.cert_trees.proofs.Plans.{within_whole}
use Rattle.cert_trees.proofs.laws.plans_are_within.Goals as goal

pub returns : goal.returns
returns c = λ m rank total some ranks totals p f. within_whole m rank total some ranks totals p f
