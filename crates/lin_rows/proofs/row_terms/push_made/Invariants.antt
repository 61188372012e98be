use Rattle.std.proofs.Common.{◌-◌}
use Rattle.lin_rows.specs.Base.{made_terms, terms_to}
use Rattle.lin_rows.specs.Made.{PutTerms}
use Rattle.lin_rows.proofs.row_terms.push_made.Given as goal

abbrev pub invariant-loop-other : goal.invariant-loop-other
invariant-loop-other l = PutTerms l.fn.terms.items (terms_to (l.other - 1) (made_terms l.instance l.item l.period)) l.terms.items
