use Rattle.std.proofs.Common.{rules, ◌≡◌, length}
use Rattle.tableau.proofs.Apart.{constant_held, other_held}
use Rattle.tableau.proofs.tableau.Tableau.cell.Goals as goal

pub returns-then-column-eq0 : goal.returns-then-column-eq0
returns-then-column-eq0 c = constant_held c.self.inside.basic.items c.self.inside.nonbasic.items c.self.inside.constants.items c.self.inside.cells.items c.args.self.now c.args.row c.args.column c.self.view_is c.requires.row c.requires.column c.index.result.now c.if-column-eq0.true c.self.invariant.constants c.index.ensures

pub returns : goal.returns
returns c =
    let w : c.len.result ≡ length c.self.inside.nonbasic.items = search (rules, c.len.ensures) in
    other_held c.self.inside.basic.items c.self.inside.nonbasic.items c.self.inside.constants.items c.self.inside.cells.items c.args.self.now c.args.row c.args.column c.self.view_is c.requires.row c.requires.column c.index-2.result.now c.len.result c.if-column-eq0.false w c.self.invariant.cells c.index-2.ensures
