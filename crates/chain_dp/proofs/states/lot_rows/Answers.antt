use Rattle.std.proofs.Common.{◌≡◌, ◌+◌, sym, subst, arith, length}
use Rattle.chain_dp.specs.States.{AreLotRows, IsBegun}
use Rattle.chain_dp.proofs.StateRows.{lot_row_pushed, state_row_of}
use Rattle.chain_dp.proofs.states.lot_rows.Goals as goal

pub loop-served-preserved : goal.loop-served-preserved
loop-served-preserved c =
    let low = c.args.low.now in
    let mid = c.args.mid.now in
    let top = c.args.top.now in
    let stretches = c.args.stretches.now in
    let table = c.args.table.now in
    let b = c.args.lot in
    let n = c.loop-served.served in
    let gaps = c.in_ok-gaps.gaps.items in
    let rows = c.loop-served.rows.items in
    let start = c.in_ok-row.row in
    let row = c.complete.new.row in
    let width : c.len.result ≡ length top.asked.items = omega (arith, c.len.ensures) in
    let begun_1 = subst (λ gs. IsBegun gs stretches c.len.result n b start) c.deref.ensures.value c.in_ok-row.ensures in
    let begun = subst (λ k. IsBegun gaps stretches k n b start) width begun_1 in
    let here = state_row_of low mid top stretches table gaps b n start row c.requires.mid.needs c.in_ok-gaps.ensures begun c.complete.ensures c.requires.lot in
    subst (AreLotRows low mid top stretches table b (n + 1)) (sym c.in_ok-push.ensures.items) (lot_row_pushed low mid top stretches table b n rows row c.loop-served.invariant here)
