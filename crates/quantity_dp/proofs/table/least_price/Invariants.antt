use Rattle.std.proofs.Common.{◌+◌, ◌*◌}
use Rattle.quantity_dp.specs.declared.limits.TheConstants.{MAX_PRICE}
use Rattle.quantity_dp.specs.Lots.{lots_of}
use Rattle.quantity_dp.specs.Table.{AreSmall, IsRow}
use Rattle.quantity_dp.proofs.table.least_price.Given as goal

abbrev pub invariant-loop-lot : goal.invariant-loop-lot
invariant-loop-lot l = record {
  row : IsRow (lots_of l.lots) l.lot-index l.most l.row.items;
  small : AreSmall (l.lot-index * (MAX_PRICE * (l.most + 1))) l.row.items;
}
