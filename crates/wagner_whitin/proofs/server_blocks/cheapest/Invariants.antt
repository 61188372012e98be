use Rattle.std.proofs.Common.{◌≡◌, ◌≤◌, ◌<◌, ℕ, Some, IfSome}
use Rattle.wagner_whitin.specs.Tables.{BlockCostsAtMost, block_at}
use Rattle.wagner_whitin.proofs.server_blocks.cheapest.Given as goal

abbrev pub invariant-loop-server : goal.invariant-loop-server
invariant-loop-server l = record {
  kept : IfSome l.best (λ block. (u : ℕ) × (1 ≤ u) × (u < l.server) × (block_at l.blocks u ≡ Some block));
  least : (u x : ℕ) → 1 ≤ u → u < l.server → BlockCostsAtMost (block_at l.blocks u) x → BlockCostsAtMost l.best x;
}
