use Rattle.std.proofs.Common.{◌-◌}
use Rattle.late_starts.specs.Pricing.{IsPricedTo, late_lots_of}
use Rattle.late_starts.proofs.pricing.least_late_price.Given as goal

abbrev pub invariant-loop-period : goal.invariant-loop-period
invariant-loop-period l = IsPricedTo (late_lots_of l.lots l.settled) (l.period - 1) l.row.items l.least
