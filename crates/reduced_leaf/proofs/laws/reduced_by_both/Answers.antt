use Rattle.reduced_leaf.proofs.Same.{lacks_by_both, sum_by_both}
use Rattle.reduced_leaf.proofs.laws.reduced_by_both.Goals as goal

pub returns-clause-sum : goal.returns-clause-sum
returns-clause-sum c = λ m rank total more rows times den shapes ranks totals others sum is. sum_by_both m rank total more rows times den shapes ranks totals others c.totals_are_one.ensures sum is

pub returns-clause-lacks : goal.returns-clause-lacks
returns-clause-lacks c = λ m rank total more rows times den shapes ranks totals others is. lacks_by_both m rank total more rows times den shapes ranks totals others c.totals_are_one.ensures is
