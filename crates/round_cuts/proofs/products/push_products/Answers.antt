use Rattle.std.proofs.Common.{◌≡◌, ◌∙◌, ◌++◌, refl, ap, slice_index_or, take}
use Rattle.std.proofs.lemmas.List.{take_all}
use mir.Facts.{to_z-of_z}
use mir.Val.{to_z, of_z}
use mir.Syntax.{w128}
use Rattle.lin_rows.proofs.Coefficients.{no_term, term_read}
use Rattle.round_cuts.specs.Merging.{products}
use Rattle.round_cuts.proofs.Pairs.{product_large, products_put, small_put}
use Rattle.round_cuts.proofs.products.push_products.Goals as goal

pub returns-in-None-clause-large : goal.returns-in-None-clause-large
returns-in-None-clause-large c = λ _.
    let ts = c.args.terms.now in
    let k = c.loop-place.place in
    let less = c.loop-place-test.true in
    let e : to_z w128 (of_z w128 c.args.times) ≡ c.args.times = to_z-of_z c.ranges.times in
    product_large c.args.times ts k (slice_index_or ts k no_term) c.requires.rising less (term_read ts k less) (rw e at (c.in-None.ensures.large refl))

pub loop-place-preserved : goal.loop-place-preserved
loop-place-preserved c =
    let ts = c.args.terms.now in
    let k = c.loop-place.place in
    let less = c.loop-place-test.true in
    record {
      made = products_put (to_z w128 (of_z w128 c.args.times)) c.args.made.now.items c.loop-place.made.items c.push.new.terms.items ts k (slice_index_or ts k no_term) c.in-Some.term less (term_read ts k less) c.loop-place.invariant.made c.in-Some.ensures.made c.in_ok-push-in-Some.ensures;
      small = small_put c.loop-place.made.items c.push.new.terms.items c.in-Some.term c.loop-place.invariant.small c.in-Some.ensures.small c.in_ok-push-in-Some.ensures;
    }

pub returns-clause-put : goal.returns-clause-put
returns-clause-put c =
    let ts = c.args.terms.now in
    let e : to_z w128 (of_z w128 c.args.times) ≡ c.args.times = to_z-of_z c.ranges.times in
    c.loop-place.invariant.made ∙ ap (λ z. c.args.made.now.items ++ products z (take c.loop-place.place ts)) e ∙ ap (λ xs. c.args.made.now.items ++ products c.args.times xs) (take_all c.loop-place.place ts c.loop-place-test.false)
