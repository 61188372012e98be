use Rattle.std.proofs.Common.{arith, refl}
use Rattle.reduced_leaf.proofs.Charging.{share_next}
use Rattle.reduced_leaf.proofs.charges.are_free.Goals as goal

pub loop-group-preserved : goal.loop-group-preserved
loop-group-preserved c = λ i t.
    let groups = c.args.groups.now in
    let k = c.loop-group.group-index in
    let g = c.group-item.result in
    omega (arith, c.loop-group.invariant i t, c.if-not-is_free.ensures refl i t, share_next groups k g i t c.loop-group-test.true c.group-item.is)
