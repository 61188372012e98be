use Rattle.std.proofs.Common.{◌+◌, sym, subst}
use Rattle.chain_dp.specs.States.{AreLotRows, AreTables}
use Rattle.chain_dp.proofs.StateRows.{table_pushed}
use Rattle.chain_dp.proofs.states.states.Goals as goal

pub loop-lot-preserved : goal.loop-lot-preserved
loop-lot-preserved c =
    let low = c.args.low.now in
    let mid = c.args.mid.now in
    let top = c.args.top.now in
    let stretches = c.args.stretches.now in
    let table = c.loop-lot.table.items in
    let n = c.loop-lot.lot in
    let rows = c.in_ok-rows.rows in
    let here = subst (λ ts. AreLotRows low mid top stretches ts n (n + 1) rows) c.deref-in-loop-lot.ensures.value c.in_ok-rows.ensures in
    subst (AreTables low mid top stretches (n + 1)) (sym c.in_ok-push.ensures.items) (table_pushed low mid top stretches table rows n c.loop-lot.invariant here)
