use Rattle.std.specs.Prelude.{◌↔◌, drop}
use Rattle.tableau.specs.Program.{AreTerms}
use Rattle.tableau.proofs.program.is_row.Given as goal

abbrev pub invariant-loop-term : goal.invariant-loop-term
invariant-loop-term l = AreTerms l.last l.from (drop l.term-index l.row.terms.items) ↔ AreTerms l.last 0 l.row.terms.items
