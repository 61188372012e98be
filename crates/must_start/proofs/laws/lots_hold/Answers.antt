use Rattle.must_start.proofs.LargestLots.{lot_holds, one_lot}
use Rattle.must_start.proofs.laws.lots_hold.Goals as goal

pub returns-clause-holds : goal.returns-clause-holds
returns-clause-holds c = λ m rank total some ranks totals p f i t low high t_low t_high lot largest. lot_holds m rank total p i t lot c.totals_are_bounded.ensures some ranks totals f low high t_low t_high largest

pub returns-clause-one : goal.returns-clause-one
returns-clause-one c = λ m total i t a b is_a is_b. one_lot m total i t a b is_a is_b
