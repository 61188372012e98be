use Rattle.std.proofs.Common.{◌-◌}
use Rattle.std.specs.Prelude.{pos}
use Rattle.lot_sizing.specs.Problem.{entry}
use Rattle.lin_rows.specs.Base.{term}
use Rattle.lin_rows.specs.Made.{PutTerms}
use Rattle.lin_rows.specs.declared.column.Column.TheVariants.{Y}
use Rattle.echelon_rows.specs.Rows.{periods_to}
use Rattle.echelon_rows.proofs.terms.push_setups.Given as goal

abbrev pub invariant-loop-period : goal.invariant-loop-period
invariant-loop-period l = PutTerms l.fn.terms.items (periods_to (l.period - 1) (λ t. term (Y l.item t) (pos (entry l.times t)))) l.terms.items
