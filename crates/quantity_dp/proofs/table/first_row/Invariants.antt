use Rattle.quantity_dp.specs.Table.{HasFirst}
use Rattle.quantity_dp.proofs.table.first_row.Given as goal

abbrev pub invariant-loop : goal.invariant-loop
invariant-loop l = HasFirst l.counter l.row.items
