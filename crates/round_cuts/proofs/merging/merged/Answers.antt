use Rattle.std.proofs.Common.{◌≡◌, ◌≤◌, ◌∙◌, ◌++◌, ◌∷◌, [], rules, refl, sym, ap, subst, arith, slice_index_or, take}
use Rattle.std.proofs.lemmas.List.{get_or_default, take_all}
use Rattle.lin_rows.proofs.Coefficients.{no_term, term_read}
use Rattle.round_cuts.specs.Merging.{IsMerged, stretch_term}
use Rattle.round_cuts.proofs.Stretches.{IsStretchOf, stretch_first, stretch_full, stretch_last, stretch_later, stretch_next}
use Rattle.round_cuts.proofs.merging.merged.Goals as goal

pub loop-place-preserved : goal.loop-place-preserved
loop-place-preserved c =
    let ts = c.args.terms.now in
    let k = c.loop-place.place in
    let less = c.loop-place-test.true in
    let a = slice_index_or ts k no_term in
    record {
      stretch = stretch_next ts c.loop-place.done.items c.take_term.new.done.items c.loop-place.stretch c.in_ok-stretch.stretch k a (record { less = less; term = term_read ts k less }) c.loop-place.invariant.stretch c.loop-place.invariant.later c.requires.small c.in_ok-stretch.ensures.takes c.in_ok-stretch.ensures.total;
      later = stretch_later ts c.loop-place.done.items c.take_term.new.done.items c.loop-place.stretch c.in_ok-stretch.stretch k a (record { less = less; term = term_read ts k less }) c.requires.rising c.in_ok-stretch.ensures.takes;
    }

pub returns-clause-merged : goal.returns-clause-merged
returns-clause-merged c =
    let ts = c.args.terms.now in
    let all : take c.loop-place.place ts ≡ ts = take_all c.loop-place.place ts c.loop-place-test.false in
    let put : c.push.new.terms.items ≡ c.loop-place.done.items ++ stretch_term c.loop-place.stretch ∷ [] = c.in_ok-push.ensures ∙ ap (λ t. c.loop-place.done.items ++ t ∷ []) c.term.ensures in
    subst (IsMerged ts) (sym put) (stretch_last ts c.loop-place.done.items c.loop-place.stretch (subst (λ front. IsStretchOf front c.loop-place.done.items c.loop-place.stretch) all c.loop-place.invariant.stretch))

pub returns-in_err-stretch-clause-large : goal.returns-in_err-stretch-clause-large
returns-in_err-stretch-clause-large c large =
    let ts = c.args.terms.now in
    let k = c.loop-place.place in
    let less = c.loop-place-test.true in
    let a = slice_index_or ts k no_term in
    (c.loop-place.stretch.column, stretch_full ts c.loop-place.done.items c.loop-place.stretch k a (record { less = less; term = term_read ts k less }) c.loop-place.invariant.stretch (c.in_err-stretch.ensures.same (search rules)) (c.in_err-stretch.ensures.large (search rules)))
