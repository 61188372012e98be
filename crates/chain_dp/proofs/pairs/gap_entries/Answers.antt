use Rattle.std.proofs.Common.{◌<◌, ◌+◌, ◌∙◌, ℕ, sym, ap, subst, length}
use Rattle.chain_dp.specs.Lists.{at}
use Rattle.chain_dp.specs.Tables.{IsGapEntry}
use Rattle.chain_dp.proofs.Pushed.{each_pushed, pushed_length}
use Rattle.chain_dp.proofs.pairs.gap_entries.Goals as goal

pub loop-served-preserved : goal.loop-served-preserved
loop-served-preserved c =
    let mid = c.args.mid.now in
    let gaps = c.args.gaps.now in
    let stretches = c.args.stretches.now in
    let firsts = c.args.firsts.now in
    let lot = c.args.lot in
    let xs = c.loop-served.cells.items in
    let x = c.pair_entry-entry.result in
    let n = c.loop-served.served in
    let inv = c.loop-served.invariant in
    let e = c.in_ok-push.ensures.items in
    let here = subst (λ k. IsGapEntry mid gaps stretches k n lot x) c.get.ensures c.pair_entry-entry.ensures in
    record {
      size = ap length e ∙ pushed_length xs x n inv.size;
      each = subst (λ ys. (v : ℕ) → v < n + 1 → IsGapEntry mid gaps stretches (at firsts v) v lot (at ys v)) (sym e) (each_pushed (λ v y. IsGapEntry mid gaps stretches (at firsts v) v lot y) xs x 0 n inv.size inv.each here);
    }
