use Rattle.std.proofs.Common.{◌≤◌, ◌<◌, ℕ}
use Rattle.node_domains.specs.Within.{IsCellGiven, given_ranges}
use Rattle.node_domains.proofs.within.are_in_order.Given as goal

abbrev pub invariant-loop-item : goal.invariant-loop-item
invariant-loop-item l = (i t : ℕ) → 1 ≤ i → i < l.item → 1 ≤ t → t ≤ l.instance.periods → IsCellGiven l.instance (given_ranges l.ranges) i t
