use Rattle.quantity_dp.specs.Table.{IsGreatestTo}
use Rattle.quantity_dp.proofs.table.greatest_need.Given as goal

abbrev pub invariant-loop-lot : goal.invariant-loop-lot
invariant-loop-lot l = IsGreatestTo l.lots l.lot-index l.most
