use Rattle.std.proofs.Common.{◌≡◌, ◌≤◌, ◌+◌, ◌∙◌, sym, ap, arith, length, map, vec_len}
use Rattle.std.proofs.lemmas.List.{length-map}
use Rattle.std.proofs.lemmas.List.Sums.{get_or-le-sum_by}
use Rattle.lot_draft.specs.Raw.{RawItem, raw_item, raw_model, raw_need}
use Rattle.lot_draft.specs.Refusals.{first_in, item_lines_fault}
use Rattle.lot_draft.proofs.Members.{member_read}
use Rattle.lot_draft.proofs.Scans.{found_in, passed_in}
use Rattle.lot_draft.proofs.checks.lines_fault.Goals as goal

pub item_lines_fault-requires-clause-lines : goal.item_lines_fault-requires-clause-lines
item_lines_fault-requires-clause-lines c =
    let items = c.args.draft.now.items.items in
    let x = c.index-item.result.now in
    let one = get_or-le-sum_by (λ i. length i.needs) (map raw_item items) c.loop-at.at (raw_item x) (omega (arith, c.loop-at-test.true, length-map items raw_item)) in
    omega (arith, one, ap (λ r. length r.needs) (member_read raw_item items c.loop-at.at x (raw_item x) (omega arith) c.index-item.ensures), length-map x.needs.items raw_need, c.requires.lines)

pub returns-in-Some : goal.returns-in-Some
returns-in-Some c =
    let f = item_lines_fault (raw_model c.args.draft.now) in
    let items = c.args.draft.now.items.items in
    found_in raw_item f (first_in f 1 (map raw_item items)) c.item_lines_fault.result c.loop-at.at items c.index-item.result.now c.in-Some.found c.loop-at.invariant (omega arith) c.index-item.ensures c.item_lines_fault.ensures c.in-Some.is

pub loop-at-preserved : goal.loop-at-preserved
loop-at-preserved c =
    let f = item_lines_fault (raw_model c.args.draft.now) in
    let items = c.args.draft.now.items.items in
    passed_in raw_item f (first_in f 1 (map raw_item items)) c.item_lines_fault.result c.loop-at.at items c.index-item.result.now c.loop-at.invariant (omega arith) c.index-item.ensures c.item_lines_fault.ensures c.in_default.is
