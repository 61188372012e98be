use Rattle.lot_sizing.specs.Problem.{entry}
use Rattle.own_plan.specs.Rows.{AreOwnRows}
use Rattle.own_plan.proofs.own_period.fill_own_lots.Given as goal

abbrev pub invariant-loop-rank : goal.invariant-loop-rank
invariant-loop-rank l = AreOwnRows l.instance (entry l.ranks) l.rank 1 l.make l.setup
