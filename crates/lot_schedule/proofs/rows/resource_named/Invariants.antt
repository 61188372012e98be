use Rattle.std.proofs.Common.{ℕ, ◌<◌, ◌≤◌, ◌≢◌}
use Rattle.lot_sizing.specs.Problem.{resource_at}
use Rattle.lot_schedule.proofs.rows.resource_named.Given as goal

abbrev pub invariant-loop-resource : goal.invariant-loop-resource
invariant-loop-resource l = (k : ℕ) → 1 ≤ k → k < l.resource → l.name ≢ (resource_at l.instance k).name
