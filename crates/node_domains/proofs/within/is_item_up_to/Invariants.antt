use Rattle.std.proofs.Common.{◌≤◌, ◌<◌, ℕ}
use Rattle.node_domains.specs.Within.{IsCellUpTo, given_ranges}
use Rattle.node_domains.proofs.within.is_item_up_to.Given as goal

abbrev pub invariant-loop-period : goal.invariant-loop-period
invariant-loop-period l = (t : ℕ) → 1 ≤ t → t < l.period → IsCellUpTo (given_ranges l.ranges) l.most l.item t
