use Rattle.std.proofs.Common.{◌≡◌, ◌+◌, ◌<◌, sym, subst, arith, length}
use Rattle.chain_dp.specs.Lists.{at}
use Rattle.chain_dp.specs.States.{AreUnits, IsCompleted, IsNarrow}
use Rattle.chain_dp.proofs.StateRows.{completed_more}
use Rattle.chain_dp.proofs.states.complete.Goals as goal

pub loop-opened-preserved : goal.loop-opened-preserved
loop-opened-preserved c =
    let low = c.args.low.now in
    let mid = c.args.mid.now in
    let top = c.args.top.now in
    let b = c.args.state.lot in
    let v = c.args.state.served in
    let n = c.loop-opened.opened in
    let before = c.args.row.now in
    let row = c.loop-opened.row in
    let new = c.serve.new.self in
    let units = c.row_at.result.now in
    let paid = c.paid-paid.result in
    let price = c.top_price-price.result in
    let inside : n < length top.asked.items = omega arith in
    let are : AreUnits top n (length top.asked.items) units = subst (AreUnits top n (length top.asked.items)) (sym c.row_at.ensures) (c.requires.units.each n inside) in
    let first : IsNarrow (at row n + at top.setup_cost.items n) paid = subst (λ k. IsNarrow (k + at top.setup_cost.items n) paid) c.get.ensures c.paid-paid.ensures in
    completed_more low mid top b v n before row new units paid price c.loop-opened.auto.opened inside c.requires.size c.loop-opened.invariant are first c.top_price-price.ensures c.serve.ensures

pub returns : goal.returns
returns c =
    let top = c.args.top.now in
    let e : c.loop-opened.opened ≡ length top.asked.items = omega arith in
    subst (λ k. IsCompleted c.args.low.now c.args.mid.now top c.args.state.lot c.args.state.served k c.args.row.now c.loop-opened.row) e c.loop-opened.invariant
