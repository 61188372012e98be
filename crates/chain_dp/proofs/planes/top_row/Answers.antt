use Rattle.std.proofs.Common.{◌<◌, ◌+◌, ◌∙◌, ℕ, sym, ap, subst, length}
use Rattle.chain_dp.specs.Numbers.{IsLeastOf}
use Rattle.chain_dp.specs.Lists.{at}
use Rattle.chain_dp.specs.Tables.{top_step}
use Rattle.chain_dp.proofs.Pushed.{each_pushed, pushed_length}
use Rattle.chain_dp.proofs.planes.top_row.Goals as goal

pub loop-served-preserved : goal.loop-served-preserved
loop-served-preserved c =
    let step = top_step c.args.low.now c.args.mid.now c.args.top.now c.args.planes.now c.args.to c.args.lot in
    let xs = c.loop-served.cells.items in
    let x = c.least_top-entry.result in
    let n = c.loop-served.served in
    let inv = c.loop-served.invariant in
    let e = c.in_ok-push.ensures.items in
    record {
      size = ap length e ∙ pushed_length xs x n inv.size;
      each = subst (λ ys. (v : ℕ) → v < n + 1 → IsLeastOf c.args.lot c.args.to (step v) (at ys v)) (sym e) (each_pushed (λ v y. IsLeastOf c.args.lot c.args.to (step v) y) xs x 0 n inv.size inv.each c.least_top-entry.ensures);
    }
