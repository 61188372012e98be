use Rattle.std.proofs.Common.{◌≡◌, ◌-◌}
use Rattle.std.specs.List.{flat_map, range_with_len}
use Rattle.plan_rules.specs.Held.{plan_of}
use Rattle.pegging.specs.Pegs.{pegs_of_item}
use Rattle.pegging.proofs.walking.peg.Given as goal

-- the pegs of the items so far
abbrev pub invariant-loop-item : goal.invariant-loop-item
invariant-loop-item l = l.pegs.items ≡ flat_map (pegs_of_item l.instance (plan_of l.plan)) (range_with_len 1 (l.item - 1))
