use Rattle.std.proofs.Common.{◌-◌}
use Rattle.quantity_dp.specs.Limits.{AreWithinTo}
use Rattle.quantity_dp.proofs.limits.find_fault.Given as goal

abbrev pub invariant-loop-period : goal.invariant-loop-period
invariant-loop-period l = AreWithinTo l.lots (l.period - 1)
