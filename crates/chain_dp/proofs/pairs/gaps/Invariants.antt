use Rattle.std.proofs.Common.{◌≡◌, ◌<◌, ℕ, length}
use Rattle.chain_dp.specs.Numbers.{IsLeastOf}
use Rattle.chain_dp.specs.Lists.{at}
use Rattle.chain_dp.specs.Tables.{leave_cost}
use Rattle.chain_dp.proofs.pairs.gaps.Given as goal

abbrev pub invariant-loop-served : goal.invariant-loop-served
invariant-loop-served l = record { size : length l.cells.items ≡ l.served; each : (v : ℕ) → v < l.served → IsLeastOf v l.to (leave_cost l.low l.mid l.plane v l.to) (at l.cells.items v) }
