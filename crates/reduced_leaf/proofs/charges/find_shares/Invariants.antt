use Rattle.std.proofs.Common.{◌≡◌, ℕ}
use Rattle.std.specs.Prelude.{map, take}
use Rattle.reduced_groups.specs.Apart.{share_in}
use Rattle.reduced_groups.specs.Floors.{shape_of}
use Rattle.reduced_leaf.proofs.charges.find_shares.Given as goal

abbrev pub invariant-loop-group : goal.invariant-loop-group
invariant-loop-group l = (t : ℕ) → share_in (map shape_of (take l.group-index l.groups)) l.item t ≡ 0
