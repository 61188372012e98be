use Rattle.std.proofs.Common.{◌+◌, sym, subst, take}
use Rattle.cert_checker.specs.Cuts.{AreRowsOf}
use Rattle.cert_checker.proofs.CutParts.{rows_more}
use Rattle.cert_checker.proofs.cut_rounding.rows_of.Goals as goal

pub loop-place-preserved : goal.loop-place-preserved
loop-place-preserved c =
    let m = c.args.instance.now in
    let earlier = c.args.earlier.now in
    let parts = c.args.parts.now in
    let k = c.loop-place.place in
    subst (AreRowsOf m earlier (take (k + 1) parts)) (sym c.in_ok-push.ensures.items)
    (rows_more m earlier parts k c.loop-place.rows.items c.in_ok-row.row c.loop-place-test.true c.loop-place.invariant c.in_ok-row.ensures.row)
