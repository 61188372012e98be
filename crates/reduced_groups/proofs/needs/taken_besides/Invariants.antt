use Rattle.std.proofs.Common.{◌≡◌, ◌-◌, ◌*◌}
use Rattle.std.specs.Prelude.{if◌then◌else◌, ◌==◌}
use Rattle.lot_sizing.specs.Sums.{sum_to}
use Rattle.lot_sizing.specs.Problem.{per_unit}
use Rattle.must_start.specs.Rows.{start_in}
use Rattle.reduced_groups.proofs.needs.taken_besides.Given as goal

abbrev pub invariant-loop-other : goal.invariant-loop-other
invariant-loop-other l = l.taken ≡ sum_to (l.other - 1) (λ j. per_unit l.instance l.item j * (if j == l.next then 0 else start_in l.started j l.period))
