use Rattle.std.proofs.Common.{◌≡◌, ◌≤◌, ◌<◌, ◌+◌, ◌∙◌, ap, sym, arith, length, map}
use Rattle.lot_draft.specs.Raw.{raw_item}
use Rattle.lot_draft.specs.Refusals.{item_names}
use Rattle.lot_draft.proofs.Members.{name_count, name_read, not_met}
use Rattle.lot_draft.proofs.Numbered.{number_met, number_none}
use Rattle.lot_draft.proofs.named.item_named.Goals as goal

pub returns-then-eq-clause-number : goal.returns-then-eq-clause-number
returns-then-eq-clause-number c =
    let names = item_names (map raw_item c.args.items.now) in
    let read = name_read raw_item (λ a. a.name) c.args.items.now c.loop-at.at c.index-items-at.result (omega arith) c.index-items-at.is ∙ sym c.as_str.ensures.value in
    let met = number_met names c.loop-at.at c.args.name.now c.as_str.result.now (omega (arith, name_count raw_item (λ a. a.name) c.args.items.now)) read (sym c.eq.ensures ∙ c.if-eq.true) c.loop-at.invariant in
    sym met

pub loop-at-preserved : goal.loop-at-preserved
loop-at-preserved c =
    let names = item_names (map raw_item c.args.items.now) in
    let read = name_read raw_item (λ a. a.name) c.args.items.now c.loop-at.at c.index-items-at.result (omega arith) c.index-items-at.is ∙ sym c.as_str.ensures.value in
    not_met names c.loop-at.at c.args.name.now c.as_str.result.now (omega (arith, name_count raw_item (λ a. a.name) c.args.items.now)) read (sym c.eq.ensures ∙ c.if-eq.false) c.loop-at.invariant

pub returns-clause-number : goal.returns-clause-number
returns-clause-number c =
    let names = item_names (map raw_item c.args.items.now) in
    sym (number_none names c.loop-at.at c.args.name.now (omega (arith, name_count raw_item (λ a. a.name) c.args.items.now)) c.loop-at.invariant)
