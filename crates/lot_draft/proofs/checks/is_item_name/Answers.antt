use Rattle.std.proofs.Common.{◌≡◌, ◌≤◌, ◌<◌, ◌∙◌, ap, sym, arith, map}
use Rattle.std.specs.Str.{bytes_eq}
use Rattle.lot_draft.specs.Raw.{RawItem, raw_item}
use Rattle.lot_draft.specs.Refusals.{item_names}
use Rattle.lot_draft.proofs.Members.{met, name_count, name_read, not_met}
use Rattle.lot_draft.proofs.checks.is_item_name.Goals as goal

pub returns-then-eq : goal.returns-then-eq
returns-then-eq c =
    let read = name_read raw_item (λ a. a.name) c.args.items.now c.loop-at.at c.index-items-at.result (omega arith) c.index-items-at.is ∙ sym c.as_str.ensures.value in
    met (item_names (map raw_item c.args.items.now)) c.loop-at.at c.args.count c.args.name.now c.as_str.result.now (omega arith) (omega (arith, name_count raw_item (λ a. a.name) c.args.items.now)) read (sym c.eq.ensures ∙ c.if-eq.true)

pub loop-at-preserved : goal.loop-at-preserved
loop-at-preserved c =
    let read = name_read raw_item (λ a. a.name) c.args.items.now c.loop-at.at c.index-items-at.result (omega arith) c.index-items-at.is ∙ sym c.as_str.ensures.value in
    not_met (item_names (map raw_item c.args.items.now)) c.loop-at.at c.args.name.now c.as_str.result.now (omega (arith, name_count raw_item (λ a. a.name) c.args.items.now)) read (sym c.eq.ensures ∙ c.if-eq.false) c.loop-at.invariant
