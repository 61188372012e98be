use Rattle.lot_sizing.specs.Problem.{entry}
use Rattle.must_start.specs.Steps.{IsFilledTo}
use Rattle.must_start.proofs.table.MustStart.fill_rank.Given as goal

abbrev pub invariant-loop-item : goal.invariant-loop-item
invariant-loop-item l = IsFilledTo l.instance (entry l.ranks) l.rank l.item l.self
