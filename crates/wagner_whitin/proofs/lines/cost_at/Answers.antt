use Rattle.std.proofs.Common.{arith}
use Rattle.echelon.specs.Views.{single_of_item}
use Rattle.wagner_whitin.proofs.Costs.{sums_order, cost_is}
use Rattle.wagner_whitin.proofs.lines.cost_at.Goals as goal

pub overflow_sub-units : goal.overflow_sub-units
overflow_sub-units c = sums_order _ _ _ c.args.line.first c.args.position c.index-2.result.now c.index.result.now c.requires.sums.net c.requires.line.low c.requires.line.begun c.requires.high c.index-2.ensures c.index.ensures

pub overflow_sub-held : goal.overflow_sub-held
overflow_sub-held c = sums_order _ _ _ c.args.line.first c.args.position c.index-4.result.now c.index-3.result.now c.requires.sums.held_net c.requires.line.low c.requires.line.begun c.requires.high c.index-4.ensures c.index-3.ensures

pub overflow_add-result : goal.overflow_add-result
overflow_add-result c =
    let is = cost_is (single_of_item c.args.single.now) c.args.sums.now c.args.line c.args.position c.index.result.now c.index-2.result.now c.index-3.result.now c.index-4.result.now c.index-unit.result.now c.index-before.result.now c.requires.within c.requires.no_backlog c.requires.sums c.requires.line c.requires.high c.index.ensures c.index-2.ensures c.index-3.ensures c.index-4.ensures c.index-unit.ensures c.index-before.ensures in
    omega (arith, is.small)

pub overflow_sub-result : goal.overflow_sub-result
overflow_sub-result c =
    let is = cost_is (single_of_item c.args.single.now) c.args.sums.now c.args.line c.args.position c.index.result.now c.index-2.result.now c.index-3.result.now c.index-4.result.now c.index-unit.result.now c.index-before.result.now c.requires.within c.requires.no_backlog c.requires.sums c.requires.line c.requires.high c.index.ensures c.index-2.ensures c.index-3.ensures c.index-4.ensures c.index-unit.ensures c.index-before.ensures in
    is.order

pub overflow_add-result-2 : goal.overflow_add-result-2
overflow_add-result-2 c =
    let is = cost_is (single_of_item c.args.single.now) c.args.sums.now c.args.line c.args.position c.index.result.now c.index-2.result.now c.index-3.result.now c.index-4.result.now c.index-unit.result.now c.index-before.result.now c.requires.within c.requires.no_backlog c.requires.sums c.requires.line c.requires.high c.index.ensures c.index-2.ensures c.index-3.ensures c.index-4.ensures c.index-unit.ensures c.index-before.ensures in
    omega (arith, is.small)

pub returns-clause-value : goal.returns-clause-value
returns-clause-value c =
    let is = cost_is (single_of_item c.args.single.now) c.args.sums.now c.args.line c.args.position c.index.result.now c.index-2.result.now c.index-3.result.now c.index-4.result.now c.index-unit.result.now c.index-before.result.now c.requires.within c.requires.no_backlog c.requires.sums c.requires.line c.requires.high c.index.ensures c.index-2.ensures c.index-3.ensures c.index-4.ensures c.index-unit.ensures c.index-before.ensures in
    is.value

pub returns-clause-small : goal.returns-clause-small
returns-clause-small c =
    let is = cost_is (single_of_item c.args.single.now) c.args.sums.now c.args.line c.args.position c.index.result.now c.index-2.result.now c.index-3.result.now c.index-4.result.now c.index-unit.result.now c.index-before.result.now c.requires.within c.requires.no_backlog c.requires.sums c.requires.line c.requires.high c.index.ensures c.index-2.ensures c.index-3.ensures c.index-4.ensures c.index-unit.ensures c.index-before.ensures in
    omega (arith, is.small)
