use Rattle.std.proofs.Common.{◌≡◌, ◌≤◌}
use Rattle.lot_sizing.specs.Single.{position_count}
use Rattle.lot_sizing.specs.Sums.{sum_to}
use Rattle.echelon.specs.Views.{single_of_item}
use Rattle.wagner_whitin.specs.Tables.{AreSums}
use Rattle.wagner_whitin.specs.Lines.{held_at}
use Rattle.wagner_whitin.proofs.line_sums.held_net_sums.Given as goal

abbrev pub invariant-loop-place : goal.invariant-loop-place
invariant-loop-place l =
    let s = single_of_item l.single in
    record {
      high : l.place ≤ position_count s;
      table : AreSums l.place (held_at s) l.sums.items;
      sum : l.sum ≡ sum_to l.place (held_at s);
    }
