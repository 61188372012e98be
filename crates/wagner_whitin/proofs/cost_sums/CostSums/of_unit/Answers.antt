use Rattle.std.proofs.Common.{arith}
use Rattle.echelon.specs.Views.{single_of_item}
use Rattle.wagner_whitin.proofs.Sums.{kept_price, owed_price}
use Rattle.wagner_whitin.proofs.cost_sums.CostSums.of_unit.Goals as goal

pub overflow_sub-result : goal.overflow_sub-result
overflow_sub-result c =
    let price = kept_price (single_of_item c.args.single.now) c.args.self.now c.args.server c.args.period c.index-unit.result.now c.index-then-server-period.result.now c.index.result.now c.requires.within c.requires.cost_sums c.requires.server c.if-server-period.true c.requires.high c.index-unit.ensures c.index-then-server-period.ensures c.index.ensures in
    price.order

pub overflow_add-result : goal.overflow_add-result
overflow_add-result c =
    let price = kept_price (single_of_item c.args.single.now) c.args.self.now c.args.server c.args.period c.index-unit.result.now c.index-then-server-period.result.now c.index.result.now c.requires.within c.requires.cost_sums c.requires.server c.if-server-period.true c.requires.high c.index-unit.ensures c.index-then-server-period.ensures c.index.ensures in
    omega (arith, price.small)

pub overflow_sub-result-else-server-period : goal.overflow_sub-result-else-server-period
overflow_sub-result-else-server-period c =
    let price = owed_price (single_of_item c.args.single.now) c.args.self.now c.args.server c.args.period c.index-unit.result.now c.index-else-server-period-2.result.now c.index-else-server-period.result.now c.requires.within c.requires.cost_sums c.requires.server c.requires.low c.if-server-period.false c.index-unit.ensures c.index-else-server-period-2.ensures c.index-else-server-period.ensures in
    price.order

pub overflow_add-result-else-server-period : goal.overflow_add-result-else-server-period
overflow_add-result-else-server-period c =
    let price = owed_price (single_of_item c.args.single.now) c.args.self.now c.args.server c.args.period c.index-unit.result.now c.index-else-server-period-2.result.now c.index-else-server-period.result.now c.requires.within c.requires.cost_sums c.requires.server c.requires.low c.if-server-period.false c.index-unit.ensures c.index-else-server-period-2.ensures c.index-else-server-period.ensures in
    omega (arith, price.small)

pub returns-then-server-period-clause-value : goal.returns-then-server-period-clause-value
returns-then-server-period-clause-value c =
    let price = kept_price (single_of_item c.args.single.now) c.args.self.now c.args.server c.args.period c.index-unit.result.now c.index-then-server-period.result.now c.index.result.now c.requires.within c.requires.cost_sums c.requires.server c.if-server-period.true c.requires.high c.index-unit.ensures c.index-then-server-period.ensures c.index.ensures in
    price.value

pub returns-then-server-period-clause-small : goal.returns-then-server-period-clause-small
returns-then-server-period-clause-small c =
    let price = kept_price (single_of_item c.args.single.now) c.args.self.now c.args.server c.args.period c.index-unit.result.now c.index-then-server-period.result.now c.index.result.now c.requires.within c.requires.cost_sums c.requires.server c.if-server-period.true c.requires.high c.index-unit.ensures c.index-then-server-period.ensures c.index.ensures in
    price.small

pub returns-else-server-period-clause-value : goal.returns-else-server-period-clause-value
returns-else-server-period-clause-value c =
    let price = owed_price (single_of_item c.args.single.now) c.args.self.now c.args.server c.args.period c.index-unit.result.now c.index-else-server-period-2.result.now c.index-else-server-period.result.now c.requires.within c.requires.cost_sums c.requires.server c.requires.low c.if-server-period.false c.index-unit.ensures c.index-else-server-period-2.ensures c.index-else-server-period.ensures in
    price.value

pub returns-else-server-period-clause-small : goal.returns-else-server-period-clause-small
returns-else-server-period-clause-small c =
    let price = owed_price (single_of_item c.args.single.now) c.args.self.now c.args.server c.args.period c.index-unit.result.now c.index-else-server-period-2.result.now c.index-else-server-period.result.now c.requires.within c.requires.cost_sums c.requires.server c.requires.low c.if-server-period.false c.index-unit.ensures c.index-else-server-period-2.ensures c.index-else-server-period.ensures in
    price.small
