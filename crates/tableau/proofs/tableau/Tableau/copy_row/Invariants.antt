use Rattle.std.proofs.Common.{◌≡◌, length}
use Rattle.tableau.specs.Steps.{AreCopied}
use Rattle.tableau.proofs.tableau.Tableau.copy_row.Given as goal

abbrev pub invariant-loop-place : goal.invariant-loop-place
invariant-loop-place l = AreCopied l.self l.row l.columns l.place l.copies × (length l.copies ≡ length l.fn.copies)
