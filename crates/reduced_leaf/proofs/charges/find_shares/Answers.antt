use Rattle.std.proofs.Common.{arith, subst}
use Rattle.reduced_groups.specs.Floors.{shape_of}
use Rattle.reduced_leaf.specs.Found.{HasShares}
use Rattle.reduced_leaf.proofs.Charging.{one_shares, share_next}
use Rattle.reduced_leaf.proofs.charges.find_shares.Goals as goal

pub returns-in-Some : goal.returns-in-Some
returns-in-Some c =
    let g = c.group-item.result in
    one_shares c.args.groups.now c.loop-group.group-index g c.args.item c.in-Some.shares.now c.loop-group-test.true c.requires.once
    (subst (λ h. HasShares (shape_of h) c.args.item c.in-Some.shares.now) c.group-item.is c.in-Some.ensures)
    c.loop-group.invariant

pub loop-group-preserved : goal.loop-group-preserved
loop-group-preserved c = λ t.
    let groups = c.args.groups.now in
    let k = c.loop-group.group-index in
    let g = c.group-item.result in
    omega (arith, c.loop-group.invariant t, c.in_default.ensures t, share_next groups k g c.args.item t c.loop-group-test.true c.group-item.is)
