use Rattle.std.proofs.Common.{◌≡◌, ◌∙◌, sym, ap, None}
use Rattle.lot_draft.specs.Raw.{raw_model}
use Rattle.lot_draft.specs.Refusals.{count_fault, lines_fault, name_fault, numbers_fault, or_then, plain_fault, repeat_fault}
use Rattle.lot_draft.proofs.Faults.{all_none}
use Rattle.lot_draft.proofs.Limits.{have_needs, plain}
use Rattle.lot_draft.proofs.checks.plain_fault.Goals as goal

pub returns-clause-needs : goal.returns-clause-needs
returns-clause-needs c none =
    let m = raw_model c.args.draft.now in
    let counts : count_fault m ≡ None = sym c.count_fault.ensures ∙ c.in_default.is in
    let names : or_then (name_fault m) (repeat_fault m) ≡ None = sym c.names_fault.ensures ∙ c.in_default-names_fault.is in
    let rest : or_then (numbers_fault m) (lines_fault m) ≡ None = sym c.numbers_and_lines_fault.ensures ∙ none in
    have_needs m (plain m (all_none (count_fault m) (name_fault m) (repeat_fault m) (numbers_fault m) (lines_fault m) counts names rest))
