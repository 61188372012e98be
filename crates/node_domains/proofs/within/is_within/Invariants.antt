use Rattle.std.proofs.Common.{◌≤◌, ◌<◌, ℕ}
use Rattle.plan_rules.specs.Held.{plan_of}
use Rattle.node_domains.specs.Within.{IsCellWithin, given_ranges}
use Rattle.node_domains.proofs.within.is_within.Given as goal

abbrev pub invariant-loop-item : goal.invariant-loop-item
invariant-loop-item l = (i t : ℕ) → 1 ≤ i → i < l.item → 1 ≤ t → t ≤ l.instance.periods → IsCellWithin (given_ranges l.ranges) (plan_of l.plan) i t
