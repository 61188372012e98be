use Rattle.std.proofs.Common.{◌≡◌, ◌+◌, ◌∙◌, sym, ap, map}
use Rattle.lot_draft.specs.Raw.{raw_item, raw_need}
use Rattle.lot_draft.specs.Refusals.{need_fault, first_in, item_names}
use Rattle.lot_draft.proofs.Scans.{found_in, passed_in}
use Rattle.lot_draft.proofs.checks.needs_fault.Goals as goal

pub returns-in-Some : goal.returns-in-Some
returns-in-Some c =
    let f = need_fault (item_names (map raw_item c.args.items.now)) c.args.item (map raw_need c.args.needs.now) in
    found_in raw_need f (first_in f 1 (map raw_need c.args.needs.now)) c.need_fault.result c.loop-at.at c.args.needs.now c.index-needs-at.result c.in-Some.found c.loop-at.invariant c.loop-at-test.true c.index-needs-at.is c.need_fault.ensures c.in-Some.is

pub loop-at-preserved : goal.loop-at-preserved
loop-at-preserved c =
    let f = need_fault (item_names (map raw_item c.args.items.now)) c.args.item (map raw_need c.args.needs.now) in
    passed_in raw_need f (first_in f 1 (map raw_need c.args.needs.now)) c.need_fault.result c.loop-at.at c.args.needs.now c.index-needs-at.result c.loop-at.invariant c.loop-at-test.true c.index-needs-at.is c.need_fault.ensures c.in_default.is
