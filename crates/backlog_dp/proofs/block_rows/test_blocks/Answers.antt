use Rattle.std.proofs.Common.{◌∙◌, sym, subst, Some, None}
use Rattle.echelon_rows.specs.Rows.{echelon_in, single_with}
use Rattle.backlog_dp.specs.Broken.{IsFirstBrokenOrNone}
use Rattle.backlog_dp.proofs.Testing.{as_many, on_echelon}
use Rattle.backlog_dp.proofs.block_rows.test_blocks.Goals as goal

pub broken_block-requires-clause-net : goal.broken_block-requires-clause-net
broken_block-requires-clause-net c = c.nets_are_small.ensures.net c.args.echelon.now c.requires.within c.args.net.now c.requires.net

pub broken_block-requires-clause-steps : goal.broken_block-requires-clause-steps
broken_block-requires-clause-steps c =
    let p = c.args.potentials.now in
    c.requires.lengths.steps ∙ sym (as_many (echelon_in c.args.echelon.now) c.args.net.now p.setup.items p.unit.items p.hold.items p.back.items c.requires.net)

pub returns-in-Some-clause-fault : goal.returns-in-Some-clause-fault
returns-in-Some-clause-fault c =
    let e = c.args.echelon.now in
    let p = c.args.potentials.now in
    let s = single_with c.args.net.now p.setup.items p.unit.items p.hold.items p.back.items e.backlogged in
    let found = subst (IsFirstBrokenOrNone s p.steps.items) c.in-Some.is c.in_ok-broken.ensures in
    (c.requires.lengths, c.requires.small, on_echelon (echelon_in e) c.args.net.now p.setup.items p.unit.items p.hold.items p.back.items p.steps.items (Some c.in-Some.block) c.requires.net found)

pub returns-in-None-clause-blocks : goal.returns-in-None-clause-blocks
returns-in-None-clause-blocks c =
    let e = c.args.echelon.now in
    let p = c.args.potentials.now in
    let s = single_with c.args.net.now p.setup.items p.unit.items p.hold.items p.back.items e.backlogged in
    let found = subst (IsFirstBrokenOrNone s p.steps.items) c.in-None.is c.in_ok-broken.ensures in
    record {
      size = c.requires.lengths.steps;
      blocks = on_echelon (echelon_in e) c.args.net.now p.setup.items p.unit.items p.hold.items p.back.items p.steps.items None c.requires.net found;
    }
