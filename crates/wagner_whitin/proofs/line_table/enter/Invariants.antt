use Rattle.std.proofs.Common.{◌≤◌, ◌+◌, ◌-◌, ◌*◌, length}
use Rattle.echelon.specs.Views.{single_of_item}
use Rattle.wagner_whitin.specs.Lines.{IsHull}
use Rattle.wagner_whitin.proofs.line_table.enter.Given as goal

abbrev pub invariant-loop-server : goal.invariant-loop-server
invariant-loop-server g l = record {
  high : l.server ≤ l.fn.servers.last + 1;
  hull : IsHull (single_of_item l.item.single.now) l.potentials (l.server - 1) (length l.potentials + 1) l.level l.slots;
  steps : l.steps ≤ l.fn.steps + (l.server - 1 - l.fn.servers.after) * l.level;
}
