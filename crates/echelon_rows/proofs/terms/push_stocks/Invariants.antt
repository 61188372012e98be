use Rattle.std.proofs.Common.{◌-◌, ◌*◌, length}
use Rattle.std.specs.Prelude.{pos}
use Rattle.lot_sizing.specs.Problem.{entry}
use Rattle.lin_rows.specs.Base.{term}
use Rattle.lin_rows.specs.Made.{PutTerms}
use Rattle.lin_rows.specs.declared.column.Column.TheVariants.{S}
use Rattle.echelon_rows.specs.Rows.{cells_to}
use Rattle.echelon_rows.proofs.terms.push_stocks.Given as goal

abbrev pub invariant-loop-item : goal.invariant-loop-item
invariant-loop-item l = PutTerms l.fn.terms.items (cells_to (l.item - 1) (length l.times) (λ j t. term (S j t) (pos (entry l.times t * entry l.weights j)))) l.terms.items
