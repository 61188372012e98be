use Rattle.std.proofs.Common.{◌≡◌, ◌≤◌, ◌<◌, ◌+◌, ◌∙◌, ℕ, sym, ap, subst, arith, length}
use Rattle.lot_sizing.specs.Problem.{entry}
use Rattle.chain_dp.specs.Lists.{at, moved}
use Rattle.chain_dp.proofs.Pushed.{each_pushed, old, pushed_length}
use Rattle.chain_dp.proofs.lists.by_lots.Goals as goal

pub loop-lot-preserved : goal.loop-lot-preserved
loop-lot-preserved c =
    let f = moved c.args.other c.args.shift (length c.args.costs.now) (entry c.args.costs.now) in
    let xs = c.loop-lot.list.items in
    let x = c.moved_cost.result in
    let n = c.loop-lot.lot in
    let inv = c.loop-lot.invariant in
    let e = c.in_ok-push-2.ensures.items in
    record {
      size = ap length e ∙ pushed_length xs x n inv.size;
      lot_0 = ap (λ ys. at ys 0) e ∙ old xs x 0 0 (omega (arith, inv.size, c.loop-lot.auto.lot)) ∙ inv.lot_0;
      each = subst (λ ys. (t : ℕ) → t < n + 1 → 1 ≤ t → at ys t ≡ f t) (sym e) (each_pushed (λ k v. 1 ≤ k → v ≡ f k) xs x 0 n inv.size inv.each (λ low. c.moved_cost.ensures));
    }
