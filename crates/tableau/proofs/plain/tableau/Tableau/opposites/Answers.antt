use Rattle.std.proofs.Common.{arith, subst}
use Rattle.tableau.specs.Outcomes.{IsPutIn}
use Rattle.tableau.proofs.Steps.{opposite_end}
use Rattle.tableau.proofs.plain.tableau.Tableau.opposites.Goals as goal

pub returns : goal.returns
returns c =
    let d = c.args.self.now in
    opposite_end d c.args.row c.args.first c.args.count c.loop-place.place c.loop-place.list.items c.put.new.list.items c.whole.result (omega (arith, c.loop-place-test.false)) c.requires.own c.whole.ensures c.loop-place.invariant (subst (λ n. IsPutIn c.args.first n c.whole.result c.loop-place.list.items c.put.new.list.items) c.basic.ensures c.put.ensures)
