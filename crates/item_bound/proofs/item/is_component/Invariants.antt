use Rattle.std.proofs.Common.{◌≡◌, ◌-◌}
use Rattle.lot_sizing.specs.Sums.{sum_to}
use Rattle.lot_sizing.specs.Problem.{per_unit}
use Rattle.item_bound.proofs.item.is_component.Given as goal

abbrev pub invariant-loop-other : goal.invariant-loop-other
invariant-loop-other l = sum_to (l.other - 1) (per_unit l.instance l.item) ≡ 0
