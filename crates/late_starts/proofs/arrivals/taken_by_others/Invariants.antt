use Rattle.std.proofs.Common.{◌≡◌, ◌-◌, ◌*◌}
use Rattle.lot_sizing.specs.Sums.{sum_to}
use Rattle.lot_sizing.specs.Problem.{per_unit}
use Rattle.must_start.specs.Rows.{start_in}
use Rattle.late_starts.proofs.arrivals.taken_by_others.Given as goal

abbrev pub invariant-loop-other : goal.invariant-loop-other
invariant-loop-other l = l.taken ≡ sum_to (l.other - 1) (λ j. per_unit l.instance l.item j * start_in l.table j l.period)
