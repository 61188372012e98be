use Rattle.cert_trees.specs.Ranges.{whole_ranges}
use Rattle.cert_trees.proofs.Plans.{lies_at_one, within_whole}
use Rattle.cert_trees.proofs.laws.plans_lie_at_one_leaf.Goals as goal

pub returns : goal.returns
returns c = record {
  within = λ m ranges t split p within. lies_at_one m ranges t split p within;
  feasible = λ m rank total t some ranks totals split p f. lies_at_one m (whole_ranges total) t split p (within_whole m rank total some ranks totals p f);
}
