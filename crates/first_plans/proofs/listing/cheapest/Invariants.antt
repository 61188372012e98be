use Rattle.std.proofs.Common.{◌<◌, length}
use Rattle.first_plans.proofs.listing.cheapest.Given as goal

abbrev pub invariant-loop-place : goal.invariant-loop-place
invariant-loop-place l = l.best < length l.list
