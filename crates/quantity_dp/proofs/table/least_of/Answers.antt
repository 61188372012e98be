use Rattle.std.proofs.Common.{refl}
use Rattle.quantity_dp.specs.Table.{price_in}
use Rattle.quantity_dp.proofs.Least.{least_next}
use Rattle.quantity_dp.proofs.table.least_of.Goals as goal

pub loop-price-preserved : goal.loop-price-preserved
loop-price-preserved c =
    let row = c.args.row.now in
    let at = c.loop-price.price-index in
    least_next (price_in row) at c.loop-price.least (price_in row at) c.lesser-least.result c.loop-price.invariant refl c.lesser-least.ensures
