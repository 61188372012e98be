use Rattle.std.proofs.Common.{◌≡◌, ◌≤◌, ◌<◌, ◌+◌, ◌-◌, ◌∙◌, ℕ, sym, ap, subst, arith, length}
use Rattle.lot_sizing.specs.Sums.{sum_to}
use Rattle.lot_sizing.specs.Problem.{entry}
use Rattle.lot_sizing.proofs.Sums.{sum_to_more}
use Rattle.chain_dp.specs.Lists.{at, moved}
use Rattle.chain_dp.proofs.Pushed.{each_pushed, old, pushed_length}
use Rattle.chain_dp.proofs.lists.asked_before.Goals as goal

pub loop-lot-preserved : goal.loop-lot-preserved
loop-lot-preserved c =
    let f = moved 0 c.args.shift (length c.args.need.now) (entry c.args.need.now) in
    let xs = c.loop-lot.list.items in
    let x = c.loop-lot.sum + c.moved_need-sum.result in
    let n = c.loop-lot.lot in
    let inv = c.loop-lot.invariant in
    let e = c.in_ok-push-3.ensures.items in
    let sum : x ≡ sum_to (n + 1 - 1) f = omega (arith, inv.sum, c.moved_need-sum.ensures.value, sum_to_more n f c.loop-lot.auto.lot) in
    record {
      size = ap length e ∙ pushed_length xs x (n + 1) inv.size;
      sum = sum;
      small = omega (arith, inv.small, c.moved_need-sum.ensures.small, c.loop-lot.auto.lot);
      lot_0 = ap (λ ys. at ys 0) e ∙ old xs x 0 0 (omega (arith, inv.size)) ∙ inv.lot_0;
      each = subst (λ ys. (k : ℕ) → k < n + 1 + 1 → 1 ≤ k → at ys k ≡ sum_to (k - 1) f) (sym e) (each_pushed (λ k v. 1 ≤ k → v ≡ sum_to (k - 1) f) xs x 0 (n + 1) inv.size inv.each (λ low. sum));
    }
