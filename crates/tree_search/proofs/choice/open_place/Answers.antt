use Rattle.tree_search.proofs.Ranges.{point_more, wide_no_point}
use Rattle.tree_search.proofs.choice.open_place.Goals as goal

pub loop-k-preserved : goal.loop-k-preserved
loop-k-preserved c = point_more c.args.ranges.now c.loop-k.k c.requires c.loop-k-test.true c.if-range.false c.loop-k.invariant

pub returns-then-range-clause-open : goal.returns-then-range-clause-open
returns-then-range-clause-open c = λ some point. wide_no_point c.args.ranges.now c.loop-k.k c.loop-k-test.true c.if-range.true point
