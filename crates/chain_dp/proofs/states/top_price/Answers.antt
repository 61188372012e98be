use Rattle.chain_dp.specs.Lists.{mid_at, top_at}
use Rattle.chain_dp.proofs.Narrowed.{narrow_capped, price_below}
use Rattle.chain_dp.proofs.states.top_price.Goals as goal

pub returns : goal.returns
returns c =
    let low = c.args.low.now in
    let mid = c.args.mid.now in
    let top = c.args.top.now in
    let v = c.args.state.served in
    let b = c.args.state.lot in
    let t = c.args.opened in
    narrow_capped (top_at low mid top v b t) c.lot_price.result c.narrow.result (price_below top mid.per_next (mid_at low mid v b) c.args.below t c.lot_price.result c.requires.below c.lot_price.ensures) c.narrow.ensures
