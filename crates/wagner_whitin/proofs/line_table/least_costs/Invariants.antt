use Rattle.std.proofs.Common.{◌≤◌, ◌+◌, ◌*◌}
use Rattle.lot_sizing.specs.Single.{period_count, position_count}
use Rattle.echelon.specs.Views.{single_of_item}
use Rattle.wagner_whitin.specs.Tables.{IsTable}
use Rattle.wagner_whitin.specs.Lines.{BeginAtEntries, IsHull}
use Rattle.wagner_whitin.proofs.Progress.{HasCome}
use Rattle.wagner_whitin.proofs.line_table.least_costs.Given as goal

abbrev pub invariant-loop-place : goal.invariant-loop-place
invariant-loop-place g l =
    let s = single_of_item l.single in
    record {
      high : l.place ≤ position_count s;
      table : IsTable s l.place l.potentials.items l.lasts.items;
      begins : BeginAtEntries s l.place l.lasts.items;
      hull : IsHull s l.potentials.items l.entered (l.place + 1) l.level l.slots.items;
      come : HasCome s l.place l.entered;
      top : l.entered ≤ period_count s;
      steps : l.steps ≤ l.fn.steps + (l.entered + l.place) * l.level;
    }
