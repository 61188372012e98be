use Rattle.tableau.specs.Held.{inequality_of}
use Rattle.tableau.proofs.plain.tableau.Tableau.put_row.Given as goal
use Rattle.tableau.proofs.Loops.{HasTermsTo}

abbrev pub invariant-loop-place : goal.invariant-loop-place
invariant-loop-place l = HasTermsTo (inequality_of l.source) l.row l.place l.fn.self l.self
