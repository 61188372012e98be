use Rattle.std.proofs.Common.{◌≡◌, ◌≤◌, ◌<◌, ◌∙◌, ap, sym, arith, map}
use Rattle.std.specs.Str.{bytes_eq}
use Rattle.lot_draft.specs.Raw.{RawNeed, raw_need}
use Rattle.lot_draft.specs.Refusals.{need_names}
use Rattle.lot_draft.proofs.Members.{met, name_count, name_read, not_met}
use Rattle.lot_draft.proofs.checks.is_need_name.Goals as goal

pub returns-then-eq : goal.returns-then-eq
returns-then-eq c =
    let read = name_read raw_need (λ a. a.item) c.args.needs.now c.loop-at.at c.index-needs-at.result (omega arith) c.index-needs-at.is ∙ sym c.as_str.ensures.value in
    met (need_names (map raw_need c.args.needs.now)) c.loop-at.at c.args.count c.args.name.now c.as_str.result.now (omega arith) (omega (arith, name_count raw_need (λ a. a.item) c.args.needs.now)) read (sym c.eq.ensures ∙ c.if-eq.true)

pub loop-at-preserved : goal.loop-at-preserved
loop-at-preserved c =
    let read = name_read raw_need (λ a. a.item) c.args.needs.now c.loop-at.at c.index-needs-at.result (omega arith) c.index-needs-at.is ∙ sym c.as_str.ensures.value in
    not_met (need_names (map raw_need c.args.needs.now)) c.loop-at.at c.args.name.now c.as_str.result.now (omega (arith, name_count raw_need (λ a. a.item) c.args.needs.now)) read (sym c.eq.ensures ∙ c.if-eq.false) c.loop-at.invariant
