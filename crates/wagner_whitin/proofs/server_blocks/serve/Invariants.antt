use Rattle.std.proofs.Common.{◌≡◌, ◌≤◌, ℕ, length, ◌+◌, ◌<◌}
use Rattle.lot_sizing.specs.Single.{period_count}
use Rattle.echelon.specs.Views.{single_of_item}
use Rattle.wagner_whitin.specs.Tables.{IsServerBlockOrNone, block_at}
use Rattle.wagner_whitin.proofs.server_blocks.serve.Given as goal

abbrev pub invariant-loop-server : goal.invariant-loop-server
invariant-loop-server l =
    let s = single_of_item l.single in
    record {
      size : length l.blocks ≡ period_count s;
      done : (u : ℕ) → 1 ≤ u → u < l.server → IsServerBlockOrNone s l.potentials u (length l.potentials + 1) (block_at l.blocks u);
      rest : (u : ℕ) → l.server ≤ u → u ≤ period_count s → IsServerBlockOrNone s l.potentials u (length l.potentials) (block_at l.blocks u);
    }
