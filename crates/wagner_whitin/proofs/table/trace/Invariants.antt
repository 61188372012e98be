use Rattle.std.proofs.Common.{◌≡◌, ◌≤◌, ◌+◌, reverse}
use Rattle.lot_sizing.specs.Single.{position_count, potential, CoverFrom, blocks_cost}
use Rattle.echelon.specs.Views.{single_of_item}
use Rattle.wagner_whitin.proofs.table.trace.Given as goal

abbrev pub invariant-loop-place : goal.invariant-loop-place
invariant-loop-place l =
    let s = single_of_item l.single in
    record {
      high : l.place ≤ position_count s;
      cover : CoverFrom s l.place (reverse l.blocks.items);
      cost : potential l.table.potentials.items l.place + blocks_cost s (reverse l.blocks.items) ≡ potential l.table.potentials.items (position_count s);
    }

abbrev pub decreases-loop-place : goal.decreases-loop-place
decreases-loop-place l = l.place
