use Rattle.std.proofs.Common.{◌≡◌, length}
use Rattle.tableau.specs.Steps.{AreListed}
use Rattle.tableau.proofs.tableau.Tableau.list_columns.Given as goal

abbrev pub invariant-loop-column : goal.invariant-loop-column
invariant-loop-column l = AreListed l.self l.row l.columns l.count l.column × (length l.columns ≡ length l.fn.columns)
