use Rattle.std.specs.Prelude.{◌↔◌, drop, map}
use Rattle.tableau.specs.Held.{inequality_of}
use Rattle.tableau.specs.Program.{AreRows}
use Rattle.tableau.proofs.program.are_rows.Given as goal

abbrev pub invariant-loop-row : goal.invariant-loop-row
invariant-loop-row l = AreRows l.last (map inequality_of (drop l.row-index l.rows)) ↔ AreRows l.last (map inequality_of l.rows)
