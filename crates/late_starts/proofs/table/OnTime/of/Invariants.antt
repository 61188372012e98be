use Rattle.lot_sizing.specs.Problem.{entry}
use Rattle.late_starts.specs.Steps.{IsFilledTo}
use Rattle.late_starts.proofs.table.OnTime.of.Given as goal

abbrev pub invariant-loop-rank : goal.invariant-loop-rank
invariant-loop-rank l = IsFilledTo l.instance (entry l.ranks) l.rank 1 l.table
