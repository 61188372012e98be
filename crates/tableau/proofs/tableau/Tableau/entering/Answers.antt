use Rattle.std.proofs.Common.{◌≡◌, ◌<◌, arith, length, subst}
use Rattle.std.specs.Prelude.{IfSome}
use Rattle.tableau.specs.Dictionary.{width}
use Rattle.tableau.specs.Run.{IsEntering}
use Rattle.tableau.proofs.Cells.{best_enters}
use Rattle.tableau.proofs.Columns.{best_all, best_more, fit_all, fit_more}
use Rattle.tableau.proofs.tableau.Tableau.entering.Goals as goal

pub loop-place-preserved : goal.loop-place-preserved
loop-place-preserved c =
    let list = c.args.columns.now in
    let place = c.loop-place.place in
    let less : place < length list = omega (arith, c.loop-place-test.true) in (
      best_more c.args.self.now c.args.row place list c.requires.columns c.loop-place.best c.in_ok-best.best less c.loop-place.invariant.0 c.in_ok-best.ensures.better,
      fit_more c.args.self.now c.args.row place list c.requires.columns c.loop-place.best c.in_ok-best.best less c.loop-place.invariant.1 c.in_ok-best.ensures.better,
    )

pub returns-in-Some-clause-column : goal.returns-in-Some-clause-column
returns-in-Some-clause-column c =
    let d = c.args.self.now in
    let end : c.loop-place.place ≡ length c.args.columns.now = omega (arith, c.loop-place-test.false, c.loop-place.auto.place-end) in
    subst (λ o. IfSome o (λ p. IsEntering d c.args.row p.0)) c.in-Some.is (best_enters d c.args.row (width d) c.loop-place.best (omega arith) (best_all d c.args.row c.loop-place.place c.args.columns.now c.requires.columns c.loop-place.best end c.loop-place.invariant.0))

pub returns-in-Some-clause-fit : goal.returns-in-Some-clause-fit
returns-in-Some-clause-fit c =
    let end : c.loop-place.place ≡ length c.args.columns.now = omega (arith, c.loop-place-test.false, c.loop-place.auto.place-end) in
    fit_all c.args.self.now c.args.row c.loop-place.place c.args.columns.now c.requires.columns end c.loop-place.invariant.1

pub returns-in-None-clause-fit : goal.returns-in-None-clause-fit
returns-in-None-clause-fit c =
    let end : c.loop-place.place ≡ length c.args.columns.now = omega (arith, c.loop-place-test.false, c.loop-place.auto.place-end) in
    fit_all c.args.self.now c.args.row c.loop-place.place c.args.columns.now c.requires.columns end c.loop-place.invariant.1
