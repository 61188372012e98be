use Rattle.std.proofs.Common.{arith}
use Rattle.reduced_groups.proofs.Placed.{times_next}
use Rattle.reduced_groups.proofs.apart.times_in.Goals as goal

pub loop-group-preserved : goal.loop-group-preserved
loop-group-preserved c = record {
  times = omega (arith, c.loop-group.invariant.times, c.times_in_group-times.ensures.value, times_next c.args.groups.now c.loop-group.group-index c.group-item.result c.args.item c.loop-group-test.true c.group-item.is);
  small = omega (arith, c.loop-group.invariant.small, c.times_in_group-times.ensures.small);
}
