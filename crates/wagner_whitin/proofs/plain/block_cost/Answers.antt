use Rattle.std.proofs.Common.{arith}
use Rattle.echelon.specs.Views.{single_of_item}
use Rattle.wagner_whitin.proofs.Serving.{positions_small}
use Rattle.wagner_whitin.proofs.Summing.{may_serve, period_at, sum_more}
use Rattle.wagner_whitin.proofs.plain.block_cost.Goals as goal

pub overflow_add-place-end : goal.overflow_add-place-end
overflow_add-place-end c = omega (arith, c.requires.block.high, positions_small (single_of_item c.args.single.now) c.requires.within)

pub serving_cost-cost-requires-clause-low : goal.serving_cost-cost-requires-clause-low
serving_cost-cost-requires-clause-low c = (period_at (single_of_item c.args.single.now) c.args.needed.now c.loop-place.place c.requires.within c.requires.needed (omega (arith, c.loop-place.auto.place, c.requires.block.low)) (omega (arith, c.requires.block.high))).low

pub serving_cost-cost-requires-clause-high : goal.serving_cost-cost-requires-clause-high
serving_cost-cost-requires-clause-high c = (period_at (single_of_item c.args.single.now) c.args.needed.now c.loop-place.place c.requires.within c.requires.needed (omega (arith, c.loop-place.auto.place, c.requires.block.low)) (omega (arith, c.requires.block.high))).high

pub serving_cost-cost-requires-clause-server : goal.serving_cost-cost-requires-clause-server
serving_cost-cost-requires-clause-server c =
    let s = single_of_item c.args.single.now in
    let at = period_at s c.args.needed.now c.loop-place.place c.requires.within c.requires.needed (omega (arith, c.loop-place.auto.place, c.requires.block.low)) (omega (arith, c.requires.block.high)) in
    may_serve s c.args.block c.loop-place.place _ c.requires.block c.loop-place.auto.place (omega arith) at.same

pub loop-place-preserved : goal.loop-place-preserved
loop-place-preserved c =
    let s = single_of_item c.args.single.now in
    let at = period_at s c.args.needed.now c.loop-place.place c.requires.within c.requires.needed (omega (arith, c.loop-place.auto.place, c.requires.block.low)) (omega (arith, c.requires.block.high)) in
    record {
      sum = sum_more s c.args.block.server c.args.block.first c.loop-place.place _ c.serving_cost-cost.result c.loop-place.cost c.loop-place.auto.place at.same c.serving_cost-cost.ensures.value c.loop-place.invariant.sum;
      small = omega (arith, c.loop-place.invariant.small, c.serving_cost-cost.ensures.small, c.loop-place.auto.place);
    }

pub returns-clause-small : goal.returns-clause-small
returns-clause-small c = omega (arith, c.loop-place.invariant.small, c.requires.block.order, c.loop-place.auto.place)
