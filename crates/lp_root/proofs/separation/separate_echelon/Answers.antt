use Rattle.std.proofs.Common.{subst}
use Rattle.lin_rows.specs.Points.{read_at}
use Rattle.lp_root.specs.RootSteps.{PutsAt}
use Rattle.lp_root.proofs.RootCuts.{echelon_next}
use Rattle.lp_root.proofs.separation.separate_echelon.Goals as goal

pub loop-l-preserved : goal.loop-l-preserved
loop-l-preserved c =
    let m = c.args.instance.now in
    let e = c.args.echelon.now in
    let read = read_at c.args.point.now in
    let old = c.loop-l.list in
    let new = c.separate_at.new.list in
    echelon_next m e read c.loop-l.l c.args.list.now old new c.loop-l.auto.l c.loop-l.invariant (subst (λ fits. PutsAt m e read c.loop-l.l fits old new) c.if-not-branch.false c.in_ok-separate_at.ensures)
