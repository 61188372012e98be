use Rattle.std.proofs.Common.{◌≡◌, ◌∙◌, sym, ap, map}
use Rattle.lot_draft.specs.Raw.{raw_item, raw_model}
use Rattle.lot_draft.specs.Refusals.{ends_fault, first_in, lots_fault}
use Rattle.lot_draft.proofs.Limits.{few_lines, plain, within}
use Rattle.lot_draft.proofs.later.later_fault.Goals as goal

pub returns-clause-limits : goal.returns-clause-limits
returns-clause-limits c none =
    let ends = ap (λ list. first_in ends_fault 1 (map raw_item list)) (sym c.deref-2.ensures.value) ∙ sym c.all_ends_fault.ensures ∙ c.in_default-all_ends_fault.is in
    let lots = ap (λ list. first_in lots_fault 1 (map raw_item list)) (sym c.deref-3.ensures.value) ∙ sym c.all_lots_fault.ensures ∙ none in
    within (raw_model c.args.draft.now) (plain (raw_model c.args.draft.now) c.requires) ends lots

pub returns-clause-lines : goal.returns-clause-lines
returns-clause-lines c none = few_lines (raw_model c.args.draft.now) (plain (raw_model c.args.draft.now) c.requires)
