use Rattle.std.proofs.Common.{◌≡◌, ◌+◌, ◌-◌, ◌++◌}
use Rattle.item_bound.specs.Cuts.{once_from}
use Rattle.item_bound.proofs.bound.apart_leaf.Given as goal

abbrev pub invariant-loop-place : goal.invariant-loop-place
invariant-loop-place l = l.parts.items ++ once_from (l.before + l.place + 1) (l.count - l.place) ≡ once_from (l.before + 1) l.count
