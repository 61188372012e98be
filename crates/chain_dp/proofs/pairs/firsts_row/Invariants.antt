use Rattle.std.proofs.Common.{◌≡◌, ◌<◌, ℕ, length}
use Rattle.chain_dp.specs.Lists.{at}
use Rattle.chain_dp.proofs.pairs.firsts_row.Given as goal

abbrev pub invariant-loop-served : goal.invariant-loop-served
invariant-loop-served l = record { size : length l.cells.items ≡ l._served; each : (v : ℕ) → v < l._served → at l.cells.items v ≡ l.cost }
