use Rattle.lot_sizing.specs.Problem.{entry}
use Rattle.late_starts.specs.Steps.{IsFilledTo}
use Rattle.late_starts.proofs.table.OnTime.fill_rank.Given as goal

abbrev pub invariant-loop-item : goal.invariant-loop-item
invariant-loop-item l = IsFilledTo l.instance (entry l.ranks) l.rank l.item l.self
