use Rattle.std.proofs.Common.{arith, refl}
use Rattle.reduced_groups.proofs.Placed.{all_next, all_taken}
use Rattle.reduced_groups.proofs.apart.first_other.Goals as goal

pub loop-place-preserved : goal.loop-place-preserved
loop-place-preserved c = all_next c.args.instance.now c.args.groups.now c.loop-place.place c.index-groups-place.result c.loop-place-test.true c.index-groups-place.is c.loop-place.invariant (c.if-not-is_group.ensures.0 refl)

pub returns : goal.returns
returns c = all_taken c.args.instance.now c.args.groups.now c.loop-place.place (omega (arith, c.loop-place-test.false)) c.loop-place.invariant
