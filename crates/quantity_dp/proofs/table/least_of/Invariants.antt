use Rattle.quantity_dp.specs.Window.{IsLeastIn}
use Rattle.quantity_dp.specs.Table.{price_in}
use Rattle.quantity_dp.proofs.table.least_of.Given as goal

abbrev pub invariant-loop-price : goal.invariant-loop-price
invariant-loop-price l = IsLeastIn (price_in l.row) 0 l.price-index l.least
