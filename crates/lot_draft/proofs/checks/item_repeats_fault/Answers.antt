use Rattle.std.proofs.Common.{◌≡◌, ◌+◌, ◌∙◌, sym, ap, map}
use Rattle.lot_draft.specs.Raw.{raw_item}
use Rattle.lot_draft.specs.Refusals.{item_repeat, first_in}
use Rattle.lot_draft.proofs.Scans.{found_in, passed_in}
use Rattle.lot_draft.proofs.checks.item_repeats_fault.Goals as goal

pub returns-in-Some : goal.returns-in-Some
returns-in-Some c = found_in raw_item (item_repeat (map raw_item c.args.items.now)) (first_in (item_repeat (map raw_item c.args.items.now)) 1 (map raw_item c.args.items.now)) c.item_repeat.result c.loop-at.at c.args.items.now c.index-items-at.result c.in-Some.found c.loop-at.invariant c.loop-at-test.true c.index-items-at.is c.item_repeat.ensures c.in-Some.is

pub loop-at-preserved : goal.loop-at-preserved
loop-at-preserved c = passed_in raw_item (item_repeat (map raw_item c.args.items.now)) (first_in (item_repeat (map raw_item c.args.items.now)) 1 (map raw_item c.args.items.now)) c.item_repeat.result c.loop-at.at c.args.items.now c.index-items-at.result c.loop-at.invariant c.loop-at-test.true c.index-items-at.is c.item_repeat.ensures c.in_default.is
