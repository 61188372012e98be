use Rattle.std.proofs.Common.{rules, sym, subst, slice_index_or}
use Rattle.std.specs.Prelude.{pos}
use mir.Facts.{to_z-of_z}
use mir.Val.{SFits, to_z, of_z}
use mir.Syntax.{w128}
use Rattle.lin_rows.specs.Rows.{AreTerms}
use Rattle.round_cuts.proofs.Pairs.{part_large, products_next}
use Rattle.round_cuts.proofs.products.all_products.Goals as goal

pub loop-place-preserved : goal.loop-place-preserved
loop-place-preserved c =
    let times = slice_index_or c.args.multipliers.now c.loop-place.place (pos 0) in
    let fits : SFits w128 times = search rules in
    products_next c.args.rows.now c.args.multipliers.now c.loop-place.place c.index-rows-place.result (to_z w128 (of_z w128 times)) c.loop-place.made.items c.push_products.new.made.items c.terms.result.now
    (record { same = c.requires; less = c.loop-place-test.true; row = c.index-rows-place.is; default = pos 0; taken = to_z-of_z fits })
    (subst (AreTerms 0) (sym c.terms.ensures.value) c.terms.ensures.rising) c.terms.ensures.value c.loop-place.invariant c.in_ok-push_products.ensures.put c.in_ok-push_products.ensures.small

pub returns-in_err-push_products-clause-large : goal.returns-in_err-push_products-clause-large
returns-in_err-push_products-clause-large c large =
    let times = slice_index_or c.args.multipliers.now c.loop-place.place (pos 0) in
    let fits : SFits w128 times = search rules in
    part_large c.args.rows.now c.args.multipliers.now c.loop-place.place c.index-rows-place.result (to_z w128 (of_z w128 times)) c.terms.result.now
    (record { same = c.requires; less = c.loop-place-test.true; row = c.index-rows-place.is; default = pos 0; taken = to_z-of_z fits })
    c.terms.ensures.value (c.in_err-push_products.ensures.large (search rules))
