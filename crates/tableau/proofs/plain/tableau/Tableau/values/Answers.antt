use Rattle.std.proofs.Common.{◌<◌, arith, subst}
use Rattle.tableau.specs.Dictionary.{basic_at, height}
use Rattle.tableau.proofs.Loops.{constant_at}
use Rattle.tableau.specs.Outcomes.{IsPutIn}
use Rattle.tableau.proofs.Steps.{put_step}
use Rattle.tableau.proofs.plain.tableau.Tableau.values.Goals as goal

pub loop-row-preserved : goal.loop-row-preserved
loop-row-preserved c =
    let d = c.args.self.now in
    let i = c.loop-row.row in
    let high : i < height d = omega (arith, c.loop-row-test.true, c.height-row-end.ensures.value) in
    put_step (height d) (basic_at d) (constant_at d) c.args.first c.args.count i c.loop-row.list.items c.put.new.list.items c.requires high c.loop-row.invariant
    (subst (λ n. IsPutIn c.args.first n (constant_at d i) c.loop-row.list.items c.put.new.list.items) c.basic.ensures (subst (λ x. IsPutIn c.args.first c.basic.result x c.loop-row.list.items c.put.new.list.items) c.constant.ensures c.put.ensures))
