use Rattle.std.proofs.Common.{◌≡◌, ◌-◌, take}
use Rattle.cert_meaning.specs.Lists.{parts_from}
use Rattle.cert_checker.proofs.leaf_reduced.spread.Given as goal

abbrev pub invariant-loop-period : goal.invariant-loop-period
invariant-loop-period l = l.parts.items ≡ parts_from l.list.kind l.list.index 1 (take (l.period - 1) l.list.times.items)
