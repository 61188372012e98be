use Rattle.chain_dp.specs.Lists.{mid_at}
use Rattle.chain_dp.proofs.Leasts.{capped_below}
use Rattle.chain_dp.proofs.planes.top_cost.Goals as goal

pub returns : goal.returns
returns c =
    capped_below c.args.top.now c.args.mid.now.per_next (mid_at c.args.low.now c.args.mid.now c.args.served c.args.lot) c.args.below c.args.units c.args.opened c.lot_cost.result c.requires.below c.lot_cost.ensures
