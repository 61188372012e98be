use Rattle.std.proofs.Common.{◌≡◌, length}
use Rattle.chain_dp.specs.Tables.{AreChainPlanes}
use Rattle.chain_dp.proofs.planes.all_planes.Given as goal

abbrev pub invariant-loop-to : goal.invariant-loop-to
invariant-loop-to l = record { size : length l.planes.items ≡ l.to; planes : AreChainPlanes l.low l.mid l.top l.stretches (length l.top.asked.items) l.planes.items }
