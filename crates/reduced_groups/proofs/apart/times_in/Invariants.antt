use Rattle.std.proofs.Common.{◌≡◌, ◌≤◌, ◌*◌}
use Rattle.std.specs.Prelude.{map, take}
use Rattle.reduced_groups.specs.Apart.{times_in}
use Rattle.reduced_groups.specs.Floors.{shape_of}
use Rattle.reduced_groups.proofs.apart.times_in.Given as goal

abbrev pub invariant-loop-group : goal.invariant-loop-group
invariant-loop-group l = record {
  times : l.times ≡ times_in (map shape_of (take l.group-index l.groups)) l.item;
  small : l.times ≤ 3 * l.group-index;
}
