use Rattle.std.proofs.Common.{◌≡◌, ◌<◌, ℕ, length}
use Rattle.chain_dp.specs.Lists.{at}
use Rattle.chain_dp.specs.Tables.{IsGapEntry}
use Rattle.chain_dp.proofs.pairs.gap_entries.Given as goal

abbrev pub invariant-loop-served : goal.invariant-loop-served
invariant-loop-served l = record { size : length l.cells.items ≡ l.served; each : (v : ℕ) → v < l.served → IsGapEntry l.mid l.gaps l.stretches (at l.firsts v) v l.lot (at l.cells.items v) }
