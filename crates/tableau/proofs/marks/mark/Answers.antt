use Rattle.std.proofs.Common.{◌≡◌, ◌*◌, ◌/◌, ◌%◌, ◌^◌, ◌∙◌, slice_index_or, subst}
use Rattle.std.specs.Prelude.{bit_or, slice_set}
use Rattle.std.proofs.lemmas.List.{get_or_default}
use Rattle.tableau.specs.Held.{IsClear}
use Rattle.tableau.proofs.Apart.{mark_here, mark_kept}
use Rattle.tableau.proofs.marks.mark.Goals as goal

pub returns-clause-kept : goal.returns-clause-kept
returns-clause-kept c = λ other clear.
    let marks = c.args.marks.now.items in
    let place = c.args.place in
    let is : c.index.result.now ≡ slice_index_or marks (place / 64) 0 = c.index.ensures ∙ get_or_default marks (place / 64) c.index.result.now 0 c.requires in
    mark_kept marks place c.requires other (subst (λ old. IsClear (slice_set marks (place / 64) (bit_or old (1 * 2 ^ (place % 64) % 18446744073709551616))) other) is clear)

pub returns-clause-here : goal.returns-clause-here
returns-clause-here c = λ clear.
    let marks = c.args.marks.now.items in
    let place = c.args.place in
    let is : c.index.result.now ≡ slice_index_or marks (place / 64) 0 = c.index.ensures ∙ get_or_default marks (place / 64) c.index.result.now 0 c.requires in
    mark_here marks place c.requires (subst (λ old. IsClear (slice_set marks (place / 64) (bit_or old (1 * 2 ^ (place % 64) % 18446744073709551616))) place) is clear)
