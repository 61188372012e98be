use Rattle.std.proofs.Common.{◌≡◌, ◌+◌, sym, subst, arith, []}
use Rattle.std.proofs.lemmas.List.{get_or_read}
use Rattle.chain_dp.specs.Lists.{row_of}
use Rattle.chain_dp.specs.Tables.{IsPairPlane, IsPairRow}
use Rattle.chain_dp.proofs.Pushed.{plane_pushed}
use Rattle.chain_dp.proofs.pairs.pair_plane.Goals as goal

pub loop-lot-preserved : goal.loop-lot-preserved
loop-lot-preserved c =
    let low = c.args.low.now in
    let mid = c.args.mid.now in
    let stretches = c.args.stretches.now in
    let firsts = c.args.firsts.now in
    let rows = c.loop-lot.plane.items in
    let row = c.in_ok-row.row in
    let n = c.loop-lot.lot in
    let first : c.index-firsts-lot.result ≡ row_of firsts n = get_or_read firsts n c.index-firsts-lot.result (omega arith) c.index-firsts-lot.is [] in
    let by_first = subst (λ fs. IsPairRow low mid stretches c.deref.result.now fs n row) first c.in_ok-row.ensures in
    let here = subst (λ rs. IsPairRow low mid stretches rs (row_of firsts n) n row) c.deref.ensures.value by_first in
    subst (IsPairPlane low mid stretches firsts (n + 1)) (sym c.in_ok-push.ensures.items) (plane_pushed low mid stretches firsts rows row n c.loop-lot.invariant here)
