use Rattle.std.proofs.Common.{refl, subst}
use Rattle.tableau.specs.Held.{IsClear}
use Rattle.tableau.proofs.Apart.{zero_held}
use Rattle.tableau.proofs.tableau.Tableau.has.Goals as goal

pub returns-then-not-is_marked-clause-no : goal.returns-then-not-is_marked-clause-no
returns-then-not-is_marked-clause-no c = λ _. zero_held c.self.inside.basic.items c.self.inside.nonbasic.items c.self.inside.constants.items c.self.inside.cells.items c.args.self.now c.args.row c.args.column c.self.view_is c.requires.row c.requires.column c.self.inside.marks.items c.mark_place.result c.mark_place.ensures c.self.invariant.marked (subst (λ marks. IsClear marks c.mark_place.result) c.deref.ensures.value (c.if-not-is_marked.ensures refl))
