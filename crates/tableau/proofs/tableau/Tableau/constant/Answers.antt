use Rattle.std.proofs.Common.{arith, refl, subst, ◌<◌}
use Rattle.tableau.specs.Dictionary.{width}
use Rattle.tableau.proofs.Apart.{constant_held}
use Rattle.tableau.proofs.tableau.Tableau.constant.Goals as goal

pub returns : goal.returns
returns c = constant_held c.self.inside.basic.items c.self.inside.nonbasic.items c.self.inside.constants.items c.self.inside.cells.items c.args.self.now c.args.row 0 c.self.view_is c.requires.row (subst (λ d. 0 < width d) c.self.view_is (omega (arith, c.self.invariant.columns))) c.index.result.now refl c.self.invariant.constants c.index.ensures
