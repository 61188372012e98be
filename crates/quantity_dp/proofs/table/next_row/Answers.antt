use Rattle.std.proofs.Common.{◌≡◌, ◌+◌, ◌-◌, sym, subst, arith}
use Rattle.quantity_dp.specs.Table.{IsNextTo, brought_in}
use Rattle.quantity_dp.specs.Window.{IsLeastIn, IsWindow}
use Rattle.quantity_dp.proofs.Rows.{next_none, next_push}
use Rattle.quantity_dp.proofs.table.next_row.Goals as goal

pub loop-quantity-init : goal.loop-quantity-init
loop-quantity-init c =
    let low : 0 - c.args.lot.now.largest ≡ 0 = omega arith in
    record {
      window = subst (λ k. IsWindow (brought_in c.args.before.now c.args.lot.now.unit) k 0 c.new-window.result) (sym low) (c.new-window.ensures (brought_in c.args.before.now c.args.lot.now.unit) 0);
      row = next_none c.args.lot.now c.args.before.now c.in_ok-row.row.items c.in_ok-row.ensures.items;
    }

pub entry-requires-clause-least : goal.entry-requires-clause-least
entry-requires-clause-least c =
    let w = brought_in c.args.before.now c.args.lot.now.unit in
    let q = c.loop-quantity.quantity in
    let largest = c.args.lot.now.largest in
    let taken = c.in_ok-take.ensures w (q - 1 - largest) c.loop-quantity.invariant.window (omega arith) (sym c.brought_to.ensures) in
    let left = c.leave.ensures w (q - 1 - largest) (q + 1) taken (omega (arith, c.saturating_sub.ensures)) (omega (arith, c.saturating_sub.ensures)) in
    subst (λ k. IsLeastIn w k (q + 1) c.least.result) c.saturating_sub.ensures (c.least.ensures w c.saturating_sub.result (q + 1) left)

pub loop-quantity-preserved : goal.loop-quantity-preserved
loop-quantity-preserved c =
    let w = brought_in c.args.before.now c.args.lot.now.unit in
    let q = c.loop-quantity.quantity in
    let largest = c.args.lot.now.largest in
    let taken = c.in_ok-take.ensures w (q - 1 - largest) c.loop-quantity.invariant.window (omega arith) (sym c.brought_to.ensures) in
    let left = c.leave.ensures w (q - 1 - largest) (q + 1) taken (omega (arith, c.saturating_sub.ensures)) (omega (arith, c.saturating_sub.ensures)) in
    let low : c.saturating_sub.result ≡ q + 1 - 1 - largest = omega (arith, c.saturating_sub.ensures) in
    record {
      window = subst (λ k. IsWindow w k (q + 1) c.leave.new.self) low left;
      row = subst (IsNextTo c.args.lot.now c.args.before.now (q + 1)) (sym c.in_ok-push.ensures.items) (next_push c.args.lot.now c.args.before.now q c.loop-quantity.row.items c.entry.result c.loop-quantity.invariant.row c.entry.ensures);
    }
