use Rattle.std.proofs.Common.{◌≡◌, ◌≤◌, ◌<◌, ◌+◌, ◌-◌, ◌∙◌, sym, ap, arith, length, map, take}
use Rattle.lot_sizing.specs.Problem.{no_item}
use Rattle.lot_draft.specs.Raw.{raw_item}
use Rattle.plan_rules.specs.Cells.{table_of}
use Rattle.frozen_start.specs.Rests.{rest_items}
use Rattle.frozen_start.proofs.RestAfter.{items_size, rest_item_at}
use Rattle.replan.specs.Capped.{item_drafted}
use Rattle.replan.proofs.Growing.{all_of, one_more}
use Rattle.replan.proofs.drafting.items.Goals as goal

pub loop-number-preserved : goal.loop-number-preserved
loop-number-preserved c =
    let m = c.args.instance.now in
    let make = table_of c.args.make.now in
    let first = c.args.first in
    let all = rest_items m make first 1 m.items in
    let size = items_size m make first 1 m.items in
    let i = c.loop-number.number in
    let k = i - 1 in
    let high : i ≤ length m.items = omega (arith, c.loop-number-test.true, c.items-number-end.ensures.value) in
    let less : k < length all = omega (arith, size, high, c.loop-number.auto.number) in
    let e : i + 1 - 1 ≡ k + 1 = omega (arith, c.loop-number.auto.number) in
    let is = c.in_ok-item.ensures ∙ ap (item_drafted m) (sym (rest_item_at m make first i (omega (arith, c.loop-number.auto.number)) high)) in
    ap (map raw_item) c.in_ok-push.ensures.items
    ∙ (one_more no_item raw_item (item_drafted m) c.loop-number.list.items c.in_ok-item.field-0 all k c.loop-number.invariant less is
    ∙ ap (λ n. map (item_drafted m) (take n all)) (sym e))

pub returns : goal.returns
returns c =
    let m = c.args.instance.now in
    let make = table_of c.args.make.now in
    let all = rest_items m make c.args.first 1 m.items in
    let done : length all ≤ c.loop-number.number - 1 = omega (arith, items_size m make c.args.first 1 m.items, c.loop-number-test.false, c.items-number-end.ensures.value) in
    all_of raw_item (item_drafted m) c.loop-number.list.items all (c.loop-number.number - 1) c.loop-number.invariant done
