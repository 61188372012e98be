use Rattle.std.proofs.Common.{refl, rules, slice_index_or}
use Rattle.std.specs.Prelude.{pos}
use mir.Facts.{to_z-of_z}
use mir.Val.{SFits, to_z, of_z}
use mir.Syntax.{w128}
use Rattle.round_cuts.proofs.Pairs.{signed_here, signed_next}
use Rattle.round_cuts.proofs.products.are_signed.Goals as goal

pub loop-place-preserved : goal.loop-place-preserved
loop-place-preserved c =
    let times = slice_index_or c.args.multipliers.now c.loop-place.place (pos 0) in
    let fits : SFits w128 times = search rules in
    signed_next c.args.rows.now c.args.multipliers.now c.loop-place.place c.index-rows-place.result (to_z w128 (of_z w128 times))
    (record { same = c.requires; less = c.loop-place-test.true; row = c.index-rows-place.is; default = pos 0; taken = to_z-of_z fits })
    c.loop-place.invariant (c.if-not-is_signed.ensures.0 refl)

pub returns-then-not-is_signed : goal.returns-then-not-is_signed
returns-then-not-is_signed c =
    let times = slice_index_or c.args.multipliers.now c.loop-place.place (pos 0) in
    let fits : SFits w128 times = search rules in (
      λ wrong. cc wrong,
      λ signed. c.if-not-is_signed.ensures.1
          (signed_here c.args.rows.now c.args.multipliers.now c.loop-place.place c.index-rows-place.result (to_z w128 (of_z w128 times))
          (record { same = c.requires; less = c.loop-place-test.true; row = c.index-rows-place.is; default = pos 0; taken = to_z-of_z fits }) signed),
    )
