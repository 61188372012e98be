use Rattle.std.proofs.Common.{◌≡◌, ◌<◌, ◌+◌, ◌∙◌, sym, ap, arith, length, map, take, slice_index_or}
use Rattle.std.specs.Prelude.{Bool, true, false, ◌||◌}
use Rattle.std.proofs.lemmas.List.{length-map, take_all}
use Rattle.lot_draft.specs.Raw.{RawItem, raw_item, raw_need}
use Rattle.lot_draft.specs.Refusals.{is_among, is_component, need_names}
use Rattle.lot_draft.proofs.Members.{any_met, any_not_met, member_read}
use Rattle.lot_draft.proofs.later.is_component.Goals as goal

pub returns-then-is_need_name : goal.returns-then-is_need_name
returns-then-is_need_name c =
    let x = c.index-items-at.result in
    let p : RawItem → Bool = λ one. is_among (need_names one.needs) c.args.name.now in
    let ns = c.deref.result.now in
    let needs : ns ≡ x.needs.items = c.deref.ensures.value in
    let all = take_all c.len.result (need_names (map raw_need ns)) (omega (arith, c.len.ensures, length-map ns raw_need, length-map (map raw_need ns) (λ n. n.item), ap length needs, x.needs.ok)) in
    let passes : p (raw_item x) ≡ true = ap (λ ms. is_among (need_names (map raw_need ms)) c.args.name.now) (sym needs) ∙ ap (λ names. is_among names c.args.name.now) (sym all) ∙ sym c.is_need_name.ensures ∙ c.if-is_need_name.true in
    any_met raw_item p c.args.items.now c.loop-at.at x c.loop-at-test.true c.index-items-at.is passes

pub loop-at-preserved : goal.loop-at-preserved
loop-at-preserved c =
    let x = c.index-items-at.result in
    let p : RawItem → Bool = λ one. is_among (need_names one.needs) c.args.name.now in
    let ns = c.deref.result.now in
    let needs : ns ≡ x.needs.items = c.deref.ensures.value in
    let all = take_all c.len.result (need_names (map raw_need ns)) (omega (arith, c.len.ensures, length-map ns raw_need, length-map (map raw_need ns) (λ n. n.item), ap length needs, x.needs.ok)) in
    let fails : p (raw_item x) ≡ false = ap (λ ms. is_among (need_names (map raw_need ms)) c.args.name.now) (sym needs) ∙ ap (λ names. is_among names c.args.name.now) (sym all) ∙ sym c.is_need_name.ensures ∙ c.if-is_need_name.false in
    any_not_met raw_item p c.args.items.now c.loop-at.at x c.loop-at-test.true c.index-items-at.is fails c.loop-at.invariant
