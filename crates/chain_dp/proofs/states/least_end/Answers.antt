use Rattle.std.proofs.Common.{arith}
use Rattle.chain_dp.specs.States.{ending}
use Rattle.chain_dp.proofs.Narrowed.{narrow_next}
use Rattle.chain_dp.proofs.states.least_end.Goals as goal

pub loop-served-preserved : goal.loop-served-preserved
loop-served-preserved c =
    narrow_next 0 c.loop-served.served (ending c.args.low.now c.args.mid.now c.args.stretches.now c.args.table.now c.args.last c.args.lot) c.loop-served.least c.end_cost-cost.result c.lesser-least.result c.loop-served.invariant (omega arith) c.end_cost-cost.ensures c.lesser-least.ensures
