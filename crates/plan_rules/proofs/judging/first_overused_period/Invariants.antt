use Rattle.std.proofs.Common.{ℕ, ◌≤◌, ◌<◌}
use Rattle.lot_sizing.specs.Plan.{IsWithinCapacity}
use Rattle.plan_rules.specs.Held.{plan_of}
use Rattle.plan_rules.proofs.judging.first_overused_period.Given as goal

abbrev pub invariant-loop-period : goal.invariant-loop-period
invariant-loop-period l = (u : ℕ) → 1 ≤ u → u < l.period → IsWithinCapacity l.instance (plan_of l.plan) l.resource u
