use Rattle.std.proofs.Common.{◌≡◌, ◌-◌, ◌∙◌, arith, slice_index_or}
use Rattle.std.proofs.lemmas.Grind.{get_or_default_zero}
use Rattle.lot_sizing.specs.Single.{net_demand}
use Rattle.echelon.specs.Views.{single_of_item}
use Rattle.wagner_whitin.proofs.Serving.{positions_small}
use Rattle.wagner_whitin.proofs.Summing.{IsAt, period_at}
use Rattle.uncoupled.proofs.NextBlocks.{lot_more, net_at_most}
use Rattle.uncoupled.proofs.lots.block_lot.Goals as goal

pub overflow_add-place-end : goal.overflow_add-place-end
overflow_add-place-end c = omega (arith, c.requires.block.high, positions_small (single_of_item c.args.single.now) c.requires.within)

pub overflow_sub-period-in-loop-place : goal.overflow_sub-period-in-loop-place
overflow_sub-period-in-loop-place c = (period_at (single_of_item c.args.single.now) c.args.needed.now c.loop-place.place c.requires.within c.requires.needed (omega (arith, c.loop-place.auto.place, c.requires.block.low)) (omega (arith, c.requires.block.high))).low

pub index-requires : goal.index-requires
index-requires c =
    let at = period_at (single_of_item c.args.single.now) c.args.needed.now c.loop-place.place c.requires.within c.requires.needed (omega (arith, c.loop-place.auto.place, c.requires.block.low)) (omega (arith, c.requires.block.high)) in
    omega (arith, at.low, at.high)

pub overflow_cast-lot : goal.overflow_cast-lot
overflow_cast-lot c =
    let s = single_of_item c.args.single.now in
    let t = slice_index_or c.args.needed.now (c.loop-place.place - 1) 0 in
    let at : IsAt s c.loop-place.place t = period_at s c.args.needed.now c.loop-place.place c.requires.within c.requires.needed (omega (arith, c.loop-place.auto.place, c.requires.block.low)) (omega (arith, c.requires.block.high)) in
    let here : c.index.result.now ≡ net_demand s t = c.index.ensures ∙ get_or_default_zero s.net (t - 1) c.index.result.now (omega (arith, at.low, at.high)) in
    omega (arith, here, net_at_most s t c.requires.within at.low at.high)

pub overflow_add-lot : goal.overflow_add-lot
overflow_add-lot c =
    let s = single_of_item c.args.single.now in
    let t = slice_index_or c.args.needed.now (c.loop-place.place - 1) 0 in
    let at : IsAt s c.loop-place.place t = period_at s c.args.needed.now c.loop-place.place c.requires.within c.requires.needed (omega (arith, c.loop-place.auto.place, c.requires.block.low)) (omega (arith, c.requires.block.high)) in
    let here : c.index.result.now ≡ net_demand s t = c.index.ensures ∙ get_or_default_zero s.net (t - 1) c.index.result.now (omega (arith, at.low, at.high)) in
    omega (arith, here, net_at_most s t c.requires.within at.low at.high, c.loop-place.invariant.small, c.requires.block.high, positions_small s c.requires.within)

pub loop-place-preserved : goal.loop-place-preserved
loop-place-preserved c =
    let s = single_of_item c.args.single.now in
    let t = slice_index_or c.args.needed.now (c.loop-place.place - 1) 0 in
    let at : IsAt s c.loop-place.place t = period_at s c.args.needed.now c.loop-place.place c.requires.within c.requires.needed (omega (arith, c.loop-place.auto.place, c.requires.block.low)) (omega (arith, c.requires.block.high)) in
    let here : c.index.result.now ≡ net_demand s t = c.index.ensures ∙ get_or_default_zero s.net (t - 1) c.index.result.now (omega (arith, at.low, at.high)) in
    record {
      sum = lot_more s c.args.block.first c.loop-place.place t c.index.result.now c.loop-place.lot c.loop-place.auto.place at.same here c.loop-place.invariant.sum;
      small = omega (arith, here, net_at_most s t c.requires.within at.low at.high, c.loop-place.invariant.small, c.loop-place.auto.place);
    }

pub returns-clause-small : goal.returns-clause-small
returns-clause-small c = omega (arith, c.loop-place.invariant.small, c.requires.block.low, c.requires.block.high, c.requires.block.order, c.loop-place.auto.place, positions_small (single_of_item c.args.single.now) c.requires.within)
