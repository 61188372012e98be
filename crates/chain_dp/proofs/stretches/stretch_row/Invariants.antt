use Rattle.std.proofs.Common.{◌≡◌, length}
use Rattle.chain_dp.specs.Tables.{IsStretchRow}
use Rattle.chain_dp.proofs.stretches.stretch_row.Given as goal

abbrev pub invariant-loop-lot : goal.invariant-loop-lot
invariant-loop-lot l = record { size : length l.cells.items ≡ l.lot; row : IsStretchRow l.level l.first l.cells.items }
