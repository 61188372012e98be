use Rattle.lot_sizing.specs.Problem.{entry}
use Rattle.must_start.specs.Steps.{IsFilledTo}
use Rattle.must_start.proofs.table.MustStart.of.Given as goal

abbrev pub invariant-loop-rank : goal.invariant-loop-rank
invariant-loop-rank l = IsFilledTo l.instance (entry l.ranks) l.rank 1 l.table
