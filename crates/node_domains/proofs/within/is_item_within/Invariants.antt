use Rattle.std.proofs.Common.{◌≤◌, ◌<◌, ℕ}
use Rattle.plan_rules.specs.Held.{plan_of}
use Rattle.node_domains.specs.Within.{IsCellWithin, given_ranges}
use Rattle.node_domains.proofs.within.is_item_within.Given as goal

abbrev pub invariant-loop-period : goal.invariant-loop-period
invariant-loop-period l = (t : ℕ) → 1 ≤ t → t < l.period → IsCellWithin (given_ranges l.ranges) (plan_of l.plan) l.item t
