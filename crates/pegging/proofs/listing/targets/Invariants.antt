use Rattle.std.proofs.Common.{◌≡◌, ◌-◌}
use Rattle.std.specs.List.{flat_map, range_with_len}
use Rattle.pegging.specs.Pegs.{targets_in}
use Rattle.pegging.proofs.listing.targets.Given as goal

-- the needs of the periods so far
abbrev pub invariant-loop-period : goal.invariant-loop-period
invariant-loop-period l = l.list.items ≡ flat_map (targets_in l.instance) (range_with_len 1 (l.period - 1))
