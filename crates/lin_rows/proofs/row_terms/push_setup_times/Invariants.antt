use Rattle.std.proofs.Common.{◌-◌}
use Rattle.lin_rows.specs.Base.{setup_terms, terms_to}
use Rattle.lin_rows.specs.Made.{PutTerms}
use Rattle.lin_rows.proofs.row_terms.push_setup_times.Given as goal

abbrev pub invariant-loop-item : goal.invariant-loop-item
invariant-loop-item l = PutTerms l.fn.terms.items (terms_to (l.item - 1) (setup_terms l.instance l.resource l.period)) l.terms.items
