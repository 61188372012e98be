use Rattle.std.proofs.Common.{◌≡◌, ◌<◌, ℕ, length}
use Rattle.chain_dp.specs.Numbers.{IsLeastOf}
use Rattle.chain_dp.specs.Lists.{at}
use Rattle.chain_dp.specs.Tables.{top_step}
use Rattle.chain_dp.proofs.planes.top_row.Given as goal

abbrev pub invariant-loop-served : goal.invariant-loop-served
invariant-loop-served l = record { size : length l.cells.items ≡ l.served; each : (v : ℕ) → v < l.served → IsLeastOf l.lot l.to (top_step l.low l.mid l.top l.planes l.to l.lot v) (at l.cells.items v) }
