use Rattle.std.proofs.Common.{◌-◌}
use Rattle.late_starts.specs.Pricing.{IsLeastTo}
use Rattle.late_starts.proofs.pricing.least_of.Given as goal

abbrev pub invariant-loop-server : goal.invariant-loop-server
invariant-loop-server l = IsLeastTo l.row (l.server - 1) l.least
