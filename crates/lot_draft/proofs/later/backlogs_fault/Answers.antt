use Rattle.std.proofs.Common.{◌≡◌, ◌+◌, ◌∙◌, sym, ap, map}
use Rattle.lot_draft.specs.Raw.{raw_item}
use Rattle.lot_draft.specs.Refusals.{backlog_fault, first_in}
use Rattle.lot_draft.proofs.Scans.{found_in, passed_in}
use Rattle.lot_draft.proofs.later.backlogs_fault.Goals as goal

pub returns-in-Some : goal.returns-in-Some
returns-in-Some c =
    let f = backlog_fault (map raw_item c.args.items.now) in
    found_in raw_item f (first_in f 1 (map raw_item c.args.items.now)) c.backlog_fault.result c.loop-at.at c.args.items.now c.index-items-at.result c.in-Some.found c.loop-at.invariant c.loop-at-test.true c.index-items-at.is c.backlog_fault.ensures c.in-Some.is

pub loop-at-preserved : goal.loop-at-preserved
loop-at-preserved c =
    let f = backlog_fault (map raw_item c.args.items.now) in
    passed_in raw_item f (first_in f 1 (map raw_item c.args.items.now)) c.backlog_fault.result c.loop-at.at c.args.items.now c.index-items-at.result c.loop-at.invariant c.loop-at-test.true c.index-items-at.is c.backlog_fault.ensures c.in_default.is
