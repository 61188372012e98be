use Rattle.std.proofs.Common.{◌-◌, length}
use Rattle.echelon.specs.Views.{HasEach, marked}
use Rattle.ls_cuts.specs.Rows.{backlog_times}
use Rattle.ls_cuts.proofs.row.backlog_times.Given as goal

abbrev pub invariant-loop-period : goal.invariant-loop-period
invariant-loop-period l = HasEach (l.period - 1) (backlog_times (length l.chosen) (marked l.chosen)) l.list.items
