use Rattle.lot_sizing.specs.Problem.{entry}
use Rattle.own_plan.specs.Rows.{AreOwnRows}
use Rattle.own_plan.proofs.own_period.fill_rank.Given as goal

abbrev pub invariant-loop-item : goal.invariant-loop-item
invariant-loop-item l = AreOwnRows l.instance (entry l.ranks) l.rank l.item l.make l.setup
