use Rattle.std.proofs.Common.{◌≤◌}
use Rattle.lot_sizing.specs.Single.{position_count}
use Rattle.echelon.specs.Views.{single_of_item}
use Rattle.wagner_whitin.specs.Tables.{AreServerBlocks, IsTable}
use Rattle.wagner_whitin.proofs.table.least_costs.Given as goal

abbrev pub invariant-loop-place : goal.invariant-loop-place
invariant-loop-place l =
    let s = single_of_item l.single in
    record {
      high : l.place ≤ position_count s;
      table : IsTable s l.place l.potentials.items l.lasts.items;
      blocks : AreServerBlocks s l.potentials.items l.place l.blocks.items;
    }
