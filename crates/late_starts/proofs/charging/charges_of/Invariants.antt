use Rattle.std.proofs.Common.{◌-◌}
use Rattle.late_starts.specs.Steps.{HasEach, charge_by}
use Rattle.late_starts.proofs.charging.charges_of.Given as goal

abbrev pub invariant-loop-period : goal.invariant-loop-period
invariant-loop-period l = HasEach (l.period - 1) (charge_by l.instance l.arriving l.item) l.list.items
