use Rattle.std.proofs.Common.{◌<◌, arith, subst}
use Rattle.tableau.specs.Dictionary.{cell, nonbasic_at, width}
use Rattle.tableau.specs.Outcomes.{IsPutIn}
use Rattle.tableau.proofs.Steps.{put_step}
use Rattle.tableau.proofs.plain.tableau.Tableau.coefficients.Goals as goal

pub loop-column-preserved : goal.loop-column-preserved
loop-column-preserved c =
    let d = c.args.self.now in
    let t = c.loop-column.column in
    let high : t < width d = omega (arith, c.loop-column-test.true, c.width-column-end.ensures.value) in
    put_step (width d) (nonbasic_at d) (cell d c.args.row) c.args.first c.args.count t c.loop-column.list.items c.put.new.list.items c.requires.apart high c.loop-column.invariant
    (subst (λ n. IsPutIn c.args.first n (cell d c.args.row t) c.loop-column.list.items c.put.new.list.items) c.nonbasic.ensures (subst (λ x. IsPutIn c.args.first c.nonbasic.result x c.loop-column.list.items c.put.new.list.items) c.cell.ensures c.put.ensures))
