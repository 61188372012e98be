use Rattle.chain_dp.proofs.StateRows.{end_offered}
use Rattle.chain_dp.proofs.states.least_of_ends.Goals as goal

pub loop-lot-preserved : goal.loop-lot-preserved
loop-lot-preserved c =
    end_offered c.args.low.now c.args.mid.now c.args.stretches.now c.args.table.now c.args.last c.loop-lot.lot c.loop-lot.least c.least_end.result c.lesser-least.result c.loop-lot.invariant c.least_end.ensures c.lesser-least.ensures
