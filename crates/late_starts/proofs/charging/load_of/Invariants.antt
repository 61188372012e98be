use Rattle.std.proofs.Common.{◌≡◌, ◌+◌, ◌-◌, ◌*◌}
use Rattle.lot_sizing.specs.Sums.{sum_to}
use Rattle.lot_sizing.specs.Problem.{per_unit}
use Rattle.late_starts.specs.Rows.{capped, cell_in}
use Rattle.late_starts.proofs.charging.load_of.Given as goal

abbrev pub invariant-loop-component : goal.invariant-loop-component
invariant-loop-component l = l.load ≡ capped (l.share + sum_to (l.component - 1) (λ i. per_unit l.instance i l.item * cell_in l.arriving i l.period))
