use Rattle.std.specs.Prelude.{map}
use Rattle.reduced_groups.specs.Floors.{shape_of}
use Rattle.reduced_groups.proofs.Placed.{all_shapes, lie_apart}
use Rattle.reduced_groups.proofs.apart.find_group_fault.Goals as goal

pub returns-in-None-first_twice : goal.returns-in-None-first_twice
returns-in-None-first_twice c = lie_apart c.args.instance.now (map shape_of c.args.groups.now) (all_shapes c.args.instance.now c.args.groups.now c.in-None.ensures) c.in-None-first_twice.ensures
