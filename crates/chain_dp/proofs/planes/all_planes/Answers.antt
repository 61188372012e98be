use Rattle.std.proofs.Common.{◌∙◌, sym, ap, subst, length}
use Rattle.chain_dp.specs.Tables.{AreChainPlanes, IsChainPlane}
use Rattle.chain_dp.proofs.Pushed.{planes_pushed, pushed_length}
use Rattle.chain_dp.proofs.planes.all_planes.Goals as goal

pub loop-to-preserved : goal.loop-to-preserved
loop-to-preserved c =
    let low = c.args.low.now in
    let mid = c.args.mid.now in
    let top = c.args.top.now in
    let stretches = c.args.stretches.now in
    let width = length top.asked.items in
    let planes = c.loop-to.planes.items in
    let plane = c.in_ok-plane.plane in
    let n = c.loop-to.to in
    let inv = c.loop-to.invariant in
    let e = c.in_ok-push.ensures.items in
    let here = subst (λ ps. IsChainPlane low mid top stretches ps width n plane) c.deref.ensures.value c.in_ok-plane.ensures in
    record {
      size = ap length e ∙ pushed_length planes plane n inv.size;
      planes = subst (AreChainPlanes low mid top stretches width) (sym e) (planes_pushed low mid top stretches planes plane width n inv.size inv.planes here);
    }
