use Rattle.std.proofs.Common.{◌≡◌, ◌+◌, ◌∙◌, refl, rules, sym, ap, slice_index_or}
use Rattle.std.specs.Prelude.{pos, ◌+ℤ◌, ◌*ℤ◌, unsigned_abs}
use mir.Facts.{to_z-of_z}
use mir.Val.{SFits, to_z, of_z}
use mir.Syntax.{w128}
use Rattle.round_cuts.proofs.Pairs.{IsPair, amount_next, right_large, sum_next}
use Rattle.round_cuts.proofs.products.right_total.Goals as goal

pub loop-place-preserved : goal.loop-place-preserved
loop-place-preserved c =
    let times = slice_index_or c.args.multipliers.now c.loop-place.place (pos 0) in
    let fits : SFits w128 times = search rules in
    let z = to_z w128 (of_z w128 times) in
    let row = c.index-rows-place.result in
    let pair : IsPair c.args.rows.now c.args.multipliers.now c.loop-place.place row z = record { same = c.requires; less = c.loop-place-test.true; row = c.index-rows-place.is; default = pos 0; taken = to_z-of_z fits } in
    record {
      sum = ap (λ t. t.sum) c.in_ok-total.ensures.sum ∙ ap (λ y. y +ℤ z *ℤ row.right) c.loop-place.invariant.sum ∙ sym (sum_next (λ r. r.right) c.args.rows.now c.args.multipliers.now c.loop-place.place row z pair);
      amount = ap (λ t. t.amount) c.in_ok-total.ensures.sum ∙ ap (λ n. n + unsigned_abs (z *ℤ row.right)) c.loop-place.invariant.amount ∙ sym (amount_next (λ r. r.right) c.args.rows.now c.args.multipliers.now c.loop-place.place row z pair);
      total = c.in_ok-total.ensures.total;
    }

pub returns-in_err-total-clause-large : goal.returns-in_err-total-clause-large
returns-in_err-total-clause-large c none =
    let times = slice_index_or c.args.multipliers.now c.loop-place.place (pos 0) in
    let fits : SFits w128 times = search rules in
    right_large c.args.rows.now c.args.multipliers.now c.loop-place.place c.index-rows-place.result (to_z w128 (of_z w128 times)) c.loop-place.total
    (record { same = c.requires; less = c.loop-place-test.true; row = c.index-rows-place.is; default = pos 0; taken = to_z-of_z fits })
    c.loop-place.invariant.amount (c.in_err-total.ensures.large refl)
