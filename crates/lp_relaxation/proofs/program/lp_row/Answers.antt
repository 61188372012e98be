use Rattle.std.proofs.Common.{rules, ◌≡◌, ◌∙◌, map, ap, arith, FitsSigned, to_z, of_z, length}
use Rattle.std.specs.Int.{w128}
use mir.Facts.{to_z-of_z}
use Rattle.std.proofs.lemmas.List.{take_all}
use Rattle.lp_relaxation.specs.Sides.{lp_term, turn}
use Rattle.lp_relaxation.proofs.Making.{same_inequality}
use Rattle.lp_relaxation.proofs.program.lp_row.Goals as goal

pub returns-clause-value : goal.returns-clause-value
returns-clause-value c =
    let m = c.args.instance.now in
    let r = c.args.row.now in
    let k = c.loop-term.term-index in
    let terms : c.loop-term.terms.items ≡ map (lp_term m c.args.turned) r.terms = c.loop-term.invariant ∙ ap (map (lp_term m c.args.turned)) (take_all k r.terms (omega (arith, c.loop-term-test.false, ap length c.terms-term-items.ensures.value))) in
    let read : FitsSigned w128 c.right.result = search rules in
    let made : FitsSigned w128 c.turn.result = search rules in
    let right : to_z w128 (of_z w128 c.turn.result) ≡ turn c.args.turned r.right = to_z-of_z made ∙ c.turn.ensures.value ∙ ap (turn c.args.turned) (to_z-of_z read ∙ c.right.ensures) in
    same_inequality m c.args.turned r c.loop-term.terms.items (to_z w128 (of_z w128 c.turn.result)) terms right
