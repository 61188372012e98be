use Rattle.std.proofs.Common.{◌-◌}
use Rattle.lot_sizing.specs.Problem.{entry}
use Rattle.reduced_groups.specs.Levels.{HasSeries}
use Rattle.reduced_leaf.proofs.charges.row_of.Given as goal

abbrev pub invariant-loop-period : goal.invariant-loop-period
invariant-loop-period l = HasSeries (l.period - 1) (entry l.shares) l.row.items
