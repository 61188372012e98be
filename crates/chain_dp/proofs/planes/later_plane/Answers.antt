use Rattle.std.proofs.Common.{◌≡◌, ◌∙◌, ap, subst, arith, length}
use Rattle.chain_dp.specs.Tables.{IsPairPlane, lots_up_to}
use Rattle.chain_dp.proofs.Pushed.{later}
use Rattle.chain_dp.proofs.planes.later_plane.Goals as goal

pub returns : goal.returns
returns c =
    let low = c.args.low.now in
    let mid = c.args.mid.now in
    let top = c.args.top.now in
    let stretches = c.args.stretches.now in
    let firsts = c.in_ok-firsts.firsts.items in
    let rows = c.in_ok-rows.rows.items in
    let table = subst (λ fs. IsPairPlane low mid stretches fs (length fs) rows) c.deref.ensures.value c.in_ok-rows.ensures in
    let width : c.len.result ≡ length top.asked.items = omega (arith, c.len.ensures) in
    let count : c.lots_up_to-lots.result ≡ lots_up_to (length top.asked.items) c.args.to = c.lots_up_to-lots.ensures ∙ ap (λ w. lots_up_to w c.args.to) width in
    later low mid top stretches c.args.planes.now firsts rows (length top.asked.items) c.args.to c.lots_up_to-lots.result count c.requires.some c.in_ok-firsts.ensures table
