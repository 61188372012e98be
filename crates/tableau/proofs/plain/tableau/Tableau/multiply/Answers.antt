use Rattle.std.proofs.Common.{◌∙◌, refl, sym}
use Rattle.tableau.specs.Dictionary.{cell}
use Rattle.tableau.proofs.Cells.{set_same, times_zero}
use Rattle.tableau.proofs.plain.tableau.Tableau.multiply.Goals as goal

pub returns-then-is_zero-clause-done : goal.returns-then-is_zero-clause-done
returns-then-is_zero-clause-done c = λ _. set_same c.args.self.now c.args.row c.args.column _ (times_zero (cell c.args.self.now c.args.row c.args.column) c.args.factor (sym c.cell-old.ensures ∙ c.if-is_zero.ensures.yes refl))
