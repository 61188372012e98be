use Rattle.std.proofs.Common.{◌-◌}
use Rattle.echelon.specs.Views.{HasEach, marked}
use Rattle.ls_cuts.specs.Rows.{unit_times}
use Rattle.ls_cuts.proofs.row.unit_times.Given as goal

abbrev pub invariant-loop-period : goal.invariant-loop-period
invariant-loop-period l = HasEach (l.period - 1) (unit_times (marked l.chosen)) l.list.items
