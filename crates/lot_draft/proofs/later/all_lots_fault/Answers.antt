use Rattle.std.proofs.Common.{◌≡◌, ◌+◌, ◌∙◌, sym, ap, map}
use Rattle.lot_draft.specs.Raw.{raw_item}
use Rattle.lot_draft.specs.Refusals.{lots_fault, first_in}
use Rattle.lot_draft.proofs.Scans.{found_in, passed_in}
use Rattle.lot_draft.proofs.later.all_lots_fault.Goals as goal

pub returns-in-Some : goal.returns-in-Some
returns-in-Some c = found_in raw_item lots_fault (first_in lots_fault 1 (map raw_item c.args.items.now)) c.lots_fault.result c.loop-at.at c.args.items.now c.index-items-at.result c.in-Some.found c.loop-at.invariant c.loop-at-test.true c.index-items-at.is c.lots_fault.ensures c.in-Some.is

pub loop-at-preserved : goal.loop-at-preserved
loop-at-preserved c = passed_in raw_item lots_fault (first_in lots_fault 1 (map raw_item c.args.items.now)) c.lots_fault.result c.loop-at.at c.args.items.now c.index-items-at.result c.loop-at.invariant c.loop-at-test.true c.index-items-at.is c.lots_fault.ensures c.in_default.is
