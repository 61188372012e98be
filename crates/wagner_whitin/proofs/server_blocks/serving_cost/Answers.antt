use Rattle.std.proofs.Common.{arith}
use Rattle.echelon.specs.Views.{single_of_item}
use Rattle.wagner_whitin.proofs.Serving.{net_small, serving_small}
use Rattle.wagner_whitin.proofs.server_blocks.serving_cost.Goals as goal

pub overflow_mul-result : goal.overflow_mul-result
overflow_mul-result c =
    let s = single_of_item c.args.single.now in
    omega (arith, serving_small c.index-net.result.now c.of_unit-price.result (net_small s c.args.period c.index-net.result.now c.requires.within c.requires.low c.requires.high c.index-net.ensures) c.of_unit-price.ensures.small)

pub returns-clause-small : goal.returns-clause-small
returns-clause-small c =
    let s = single_of_item c.args.single.now in
    serving_small c.index-net.result.now c.of_unit-price.result (net_small s c.args.period c.index-net.result.now c.requires.within c.requires.low c.requires.high c.index-net.ensures) c.of_unit-price.ensures.small
